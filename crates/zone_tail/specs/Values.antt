-- The value that a candidate's text spells, and the time zone that it stands for.
use Rattle.std.specs.{Prelude.{ℕ, ◌/◌, ◌%◌, ◌&&◌, ◌==◌, not, List, Option, Some, None, if◌then◌else◌, ℤ, pos, ◌+ℤ◌, int_lt, unsigned_abs}, Ordering.{int_eq}}
use Rattle.tz_posix.specs.{PosixZones.{Named, PosixZone, fixed, ruled}, Values.{TzValue, expanded}, declared.date.Date.{Date}, declared.time.Offset.{Offset}, declared.time.Time.{Time}, declared.values.Rule.{Rule}}
use Rattle.zone_tail.specs.{Rules.{date_of, time_of}, declared.candidate.Candidate.{Candidate}, declared.candidate.Candidate.TheVariants.{Fixed, Ruled}, declared.rule.Change.{Change}, declared.rule.YearlyRule.{YearlyRule}}

abbrev pub minute_value : ℕ → ℕ → Option ℕ
minute_value minute second = if minute == 0 && second == 0 then None else Some minute

abbrev pub second_value : ℕ → Option ℕ
second_value second = if second == 0 then None else Some second

abbrev pub time_value : ℕ → Time
time_value seconds =
    record { hh = seconds / 3600; mm = minute_value (seconds / 60 % 60) (seconds % 60); ss = second_value (seconds % 60) }

abbrev pub offset_value : ℤ → Offset
offset_value east = record { positive = not (int_lt (pos 0) east); time = time_value (unsigned_abs east) }

abbrev pub clock_value : ℕ → Option Time
clock_value second = if second == 7200 then None else Some (time_value second)

abbrev pub moment_value : Change → Date × Option Time
moment_value change = (date_of change, clock_value change.second)

abbrev pub saving_value : ℤ → ℤ → Option Offset
saving_value standard saving = if int_eq saving (standard +ℤ pos 3600) then None else Some (offset_value saving)

abbrev pub rule_value : YearlyRule → Rule Time
rule_value rule = record { start = moment_value rule.start; end = moment_value rule.end }

-- with the names of standard and of daylight saving time
unfoldable pub value_of : List ℕ → List ℕ → Candidate → TzValue
value_of standard saving (Fixed total) = expanded (record { name = standard; offset = offset_value total }) None
value_of standard saving (Ruled rule) =
    expanded (record { name = standard; offset = offset_value rule.standard })
    (Some (record { name = saving; offset = saving_value rule.standard rule.saving; rule = Some (rule_value rule) }))

abbrev pub named : List ℕ → ℤ → Named
named name total = record { name = name; total = total }

unfoldable pub zone_of : List ℕ → List ℕ → Candidate → PosixZone
zone_of standard saving (Fixed total) = fixed (named standard total)
zone_of standard saving (Ruled rule) = ruled (named standard rule.standard) (named saving rule.saving) (time_of rule.start) (time_of rule.end)
