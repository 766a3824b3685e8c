-- A zone of two yearly rules, and the POSIX value that says the same.
use Rattle.std.specs.{Prelude.{◌≡◌, ℕ, ◌⊎◌, List, Some, ℤ, pos, ◌+ℤ◌, ◌*ℤ◌, ◌≤ℤ◌, ◌<ℤ◌}, Int.{int_max}}
use Rattle.basics.specs.Days.{day}
use Rattle.zone_table.specs.{Months.{month_number}, Weekdays.{weekday_number}, declared.day.DaySpec.{DaySpec}, declared.day.DaySpec.TheVariants.{Last, FirstOnOrAfter}, declared.month.Month.{Month}, declared.time.TimeType.TheVariants.{Wall}, declared.{weekday.Weekday.{Weekday}, year.Year.TheVariants.{Maximum, Number}}, Moments.{moment}, declared.rule.RuleInfo.{RuleInfo}, declared.zone.Saving.TheVariants.{Multiple}, declared.zone.ZoneInfo.{ZoneInfo}}
use Rattle.zone_spans.specs.{Lines.{Rulesets}, Years.{earliest_year, latest_year}}
use Rattle.tz_posix.specs.{TwoRules.{AreBoth}, InForce.{YearlyTime, posix_total, yearly_time}, Seconds.{IsWritten, east_of}, Values.{TzValue, expanded}, declared.date.Date.{Date}, declared.date.Date.TheVariants.{M}, declared.time.Offset.{Offset}}
use Rattle.tz_posix.specs.declared.{time.Time.{Time}, values.Rule.{Rule}}

-- a POSIX value with both offsets and a rule written
pub record RuledValue : Type 0 where
  pub standard_name : List ℕ
  pub standard : Offset
  pub saving_name : List ℕ
  pub saving : Offset
  pub rule : Rule Time

abbrev pub value_of : RuledValue → TzValue
value_of q =
    expanded (record { name = q.standard_name; offset = q.standard })
    (Some (record { name = q.saving_name; offset = Some q.saving; rule = Some q.rule }))

-- the seconds east of UTC that it gives a second
abbrev pub value_total : RuledValue → ℤ → ℤ
value_total q second =
    posix_total (east_of q.standard) (east_of q.saving) (yearly_time q.rule.start) (yearly_time q.rule.end) second

-- the days that a rule may have, each with the date that says the same: of one month and weekday, the first on or after the
-- 1st, 8th, 15th or 22nd is the 1st, 2nd, 3rd or 4th, and the last the 5th
pub data IsSameDay (month : Month) (weekday : Weekday) : DaySpec → Date → Type 0 where
  from_first : IsSameDay month weekday (FirstOnOrAfter weekday (pos 1)) (M (month_number month) 1 (weekday_number weekday))
  from_eighth : IsSameDay month weekday (FirstOnOrAfter weekday (pos 8)) (M (month_number month) 2 (weekday_number weekday))
  from_fifteenth : IsSameDay month weekday (FirstOnOrAfter weekday (pos 15)) (M (month_number month) 3 (weekday_number weekday))
  from_twenty_second : IsSameDay month weekday (FirstOnOrAfter weekday (pos 22)) (M (month_number month) 4 (weekday_number weekday))
  last_of_month : IsSameDay month weekday (Last weekday) (M (month_number month) 5 (weekday_number weekday))

-- a rule and a yearly time have the same day and the same time of day
pub record IsSameTime (rule : RuleInfo) (time : YearlyTime) : Type 0 where
  pub weekday : Weekday
  pub day : IsSameDay rule.month weekday rule.day time.0
  pub seconds : rule.time ≡ time.1

-- 0 to 86,399 seconds
pub record IsTimeOfDay (seconds : ℤ) : Type 0 where
  pub least : pos 0 ≤ℤ seconds
  pub greatest : seconds ≤ℤ pos 86399

-- of the years that a line expands, 1800 to 2099, the first in which rules from a year on apply
abbrev pub first_year : ℤ → ℤ
first_year from = int_max from (pos earliest_year)

pub record IsRuleYear (from y : ℤ) : Type 0 where
  pub first : first_year from ≤ℤ y
  pub last : y ≤ℤ pos latest_year

-- a second of the years from one to another, each from its 1 January on by clocks of standard time
pub record IsInRuleYears (offset from to second : ℤ) : Type 0 where
  pub begun : (pos 86400 *ℤ day from 1 1) ≤ℤ (second +ℤ offset)
  pub not_over : (second +ℤ offset) <ℤ (pos 86400 *ℤ day (to +ℤ pos 1) 1 1)

-- a zone's only line, the two rules that it is ruled by, of which one starts the saving and the other ends it, and the year that
-- both run from
pub record TwoRuleZone : Type 0 where
  pub line : ZoneInfo
  pub start : RuleInfo
  pub end : RuleInfo
  pub from : ℤ

-- when the saving starts in a year, under no saving, and when it ends, under the saving
abbrev pub start_in : TwoRuleZone → ℤ → ℤ
start_in zone y = moment zone.start y zone.line.offset (pos 0)

abbrev pub end_in : TwoRuleZone → ℤ → ℤ
end_in zone y = moment zone.end y zone.line.offset zone.start.time_to_add

-- a start or an end of the years
pub record IsChange (zone : TwoRuleZone) (second : ℤ) : Type 0 where
  pub year : ℤ
  pub in_range : IsRuleYear zone.from year
  pub is : (second ≡ start_in zone year) ⊎ (second ≡ end_in zone year)

-- the start comes first in each year, as north of the equator
abbrev pub IsNorthern : TwoRuleZone → Type 0
IsNorthern zone = (y : ℤ) → IsRuleYear zone.from y → start_in zone y <ℤ end_in zone y

-- the end comes first in each year, as south of it
abbrev pub IsSouthern : TwoRuleZone → Type 0
IsSouthern zone = (y : ℤ) → IsRuleYear zone.from y → end_in zone y <ℤ start_in zone y

-- each condition under which the zone and the value agree
pub record SaysTheSame (rulesets : Rulesets) (zone : TwoRuleZone) (q : RuledValue) : Type 0 where
  -- the line is ruled by a ruleset of exactly these two rules, in either order
  pub ruleset_name : List ℕ
  pub ruled : zone.line.saving ≡ Multiple ruleset_name
  pub rules : List RuleInfo
  pub found : rulesets ruleset_name ≡ Some rules
  pub exactly_two : AreBoth zone.start zone.end rules
  -- both run from the same year, 2099 at most, to max
  pub start_from : zone.start.from_year ≡ Number zone.from
  pub end_from : zone.end.from_year ≡ Number zone.from
  pub from_at_most : zone.from ≤ℤ pos latest_year
  pub start_to_max : zone.start.to_year ≡ Some Maximum
  pub end_to_max : zone.end.to_year ≡ Some Maximum
  -- one has a saving above 0, and the other the saving 0
  pub saving : pos 0 <ℤ zone.start.time_to_add
  pub no_saving : zone.end.time_to_add ≡ pos 0
  -- neither offset is more than 89,999 in size
  pub standard_small : IsWritten zone.line.offset
  pub saving_small : IsWritten (zone.line.offset +ℤ zone.start.time_to_add)
  -- both times are times of day by the wall's clock
  pub start_wall : zone.start.time_type ≡ Wall
  pub end_wall : zone.end.time_type ≡ Wall
  pub start_time : IsTimeOfDay zone.start.time
  pub end_time : IsTimeOfDay zone.end.time
  -- each start and each end lies in its year
  pub start_inside : (y : ℤ) → IsRuleYear zone.from y → IsInRuleYears zone.line.offset y y (start_in zone y)
  pub end_inside : (y : ℤ) → IsRuleYear zone.from y → IsInRuleYears zone.line.offset y y (end_in zone y)
  -- the start comes first in all of these years, or the end does in all
  pub order : IsNorthern zone ⊎ IsSouthern zone
  -- all starts and ends, put in order, are more than the saving apart from one to the next
  pub apart : (s t : ℤ) → IsChange zone s → IsChange zone t → s <ℤ t → (s +ℤ zone.start.time_to_add) <ℤ t
  -- the value has the same two offsets, and its start and its end the same days and times
  pub same_standard : east_of q.standard ≡ zone.line.offset
  pub same_saving : east_of q.saving ≡ zone.line.offset +ℤ zone.start.time_to_add
  pub same_start : IsSameTime zone.start (yearly_time q.rule.start)
  pub same_end : IsSameTime zone.end (yearly_time q.rule.end)

-- a second from the first start on, up to the end of the year 2099
pub record IsFromFirstStart (zone : TwoRuleZone) (second : ℤ) : Type 0 where
  pub begun : start_in zone (first_year zone.from) ≤ℤ second
  pub not_over : (second +ℤ zone.line.offset) <ℤ (pos 86400 *ℤ day (pos latest_year +ℤ pos 1) 1 1)

-- a second at which the zone and the value are shown to agree
abbrev pub IsCovered : TwoRuleZone → ℤ → Type 0
IsCovered zone second =
    (IsNorthern zone × IsInRuleYears zone.line.offset (first_year zone.from) (pos latest_year) second)
    ⊎ (IsSouthern zone × IsFromFirstStart zone second)
