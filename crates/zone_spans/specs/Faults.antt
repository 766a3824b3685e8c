-- The first thing that keeps a zone from having a schedule.
use Rattle.std.specs.{Prelude.{ℕ, zero, suc, ◌+◌, ◌-◌, Bool, true, false, not, ◌&&◌, ◌||◌, if◌then◌else◌, List, [], ◌∷◌, ◌++◌, length, take, Option, Some, None, is_none, ℤ, pos}, List.{list_any, list_all}, Option.{option_map_or}}
use Rattle.zone_table.specs.{Days.{named_day, is_in_year}, Ends.{end_year, year_number, is_dated_year, day_of_end}, declared.change.ChangeTime.{ChangeTime}, Moments.{has_years, applies_to_year}, declared.rule.RuleInfo.{RuleInfo}, declared.zone.ZoneInfo.{ZoneInfo}}
use Rattle.zone_spans.specs.{Lines.{Line, Rulesets, is_known, is_ruled, zone_lines}, Firings.{years_over}, Entries.{raw_entries_over, is_standard}, declared.fault.SpanFault.{SpanFault}}
use Rattle.zone_spans.specs.{declared.fault.SpanFault.TheVariants.{UnknownRuleset, MissingUntil, YearRange, RuleYears, DayRange, NoStandardSpan}, Years.{earliest_year, most_years}}

-- the fault of the first test that is met
abbrev pub first_met : List (Bool × SpanFault) → Option SpanFault
first_met [] = None
first_met ((met, fault) ∷ others) = if met then Some fault else first_met others

abbrev pub is_unknown : Rulesets → ZoneInfo → Bool
is_unknown rulesets info = not (is_known rulesets info.saving)

abbrev pub all_but_last : List ZoneInfo → List ZoneInfo
all_but_last infos = take (length infos - 1) infos

abbrev pub ends_in_no_year : Line → Bool
ends_in_no_year line = option_map_or (λ end. not (is_dated_year (end_year end))) line.end false

abbrev pub lacks_years : Line → Bool
lacks_years line = not (list_all has_years line.rules)

-- in one of the first n years from the earliest on
unfoldable pub some_year : (ℤ → Bool) → ℕ → Bool
some_year test zero = false
some_year test (suc n) = some_year test n || test (pos (earliest_year + n))

-- the rule applies to the year, and its day lies in another
unfoldable pub is_outside : RuleInfo → ℤ → Bool
is_outside rule year = applies_to_year rule year && not (is_in_year (named_day rule.day year rule.month) year)

-- the day of the end lies in another year than the end's
abbrev pub ends_outside : ChangeTime → Bool
ends_outside end = not (is_in_year (day_of_end end) (year_number (end_year end)))

-- the day of the line's end lies in another year, or that of a rule in a year that the line expands
unfoldable pub leaves_year_over : ℕ → Line → Bool
leaves_year_over most line =
    option_map_or ends_outside line.end false
    || list_any (λ rule. some_year (is_outside rule) (years_over most line.end)) line.rules

-- there is no line, or the first is ruled
abbrev pub begins_ruled : List Line → Bool
begins_ruled [] = true
begins_ruled (line ∷ lines) = is_ruled line.info.saving

-- the tests that take nothing but a zone's lines, in their order
abbrev pub line_tests : ℕ → List ZoneInfo → List Line → List (Bool × SpanFault)
line_tests most infos lines =
    (list_any (λ info. is_none info.end_time) (all_but_last infos), MissingUntil)
    ∷ (list_any ends_in_no_year lines, YearRange)
    ∷ (list_any lacks_years lines, RuleYears)
    ∷ (list_any (leaves_year_over most) lines, DayRange)
    ∷ []

-- the test of the entries
abbrev pub entry_test : ℕ → List Line → Bool × SpanFault
entry_test most lines = (begins_ruled lines && not (list_any is_standard (raw_entries_over most lines)), NoStandardSpan)

unfoldable pub line_fault : ℕ → List ZoneInfo → List Line → Option SpanFault
line_fault most infos lines = first_met (line_tests most infos lines)

unfoldable pub schedule_fault_over : ℕ → Rulesets → List ZoneInfo → Option SpanFault
schedule_fault_over most rulesets infos =
    let lines = zone_lines rulesets infos in
    first_met ((list_any (is_unknown rulesets) infos, UnknownRuleset) ∷ (line_tests most infos lines ++ entry_test most lines ∷ []))

-- over the years to the latest
abbrev pub schedule_fault : Rulesets → List ZoneInfo → Option SpanFault
schedule_fault rulesets infos = schedule_fault_over most_years rulesets infos
