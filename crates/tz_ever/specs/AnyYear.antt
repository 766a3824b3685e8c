-- What a zone shows at any instant: its lines are expanded over as many years as the instant asks for.
use Rattle.std.specs.{Prelude.{ℕ, zero, suc, ◌+◌, ◌*◌, ◌/◌, Bool, true, not, if◌then◌else◌, List, Option, Some, None, Result, Ok, Err, ℤ, pos, neg_ℤ, ◌+ℤ◌, ◌-ℤ◌, ◌*ℤ◌, ◌<ℤ◌, ◌≤ℤ◌, int_lt, unsigned_abs}, List.{list_all}, Option.{option_map_or}}
use Rattle.basics.specs.Days.{day}
use Rattle.zone_table.specs.declared.zone.ZoneInfo.{ZoneInfo}
use Rattle.zone_spans.specs.{Compiled.{compiled_over}, Lines.{Line, Rulesets}, Schedules.{total_at, schedule_over}, Years.{earliest_year}, declared.fault.SpanFault.{SpanFault}, declared.span.FixedTimespan.{FixedTimespan}}
use Rattle.zone_spans.specs.{declared.span.FixedTimespanSet.{FixedTimespanSet}, Cycle.{instant_on}, GoesOn.{cycle_entries, last_of}}
use Rattle.tz_ever.specs.InForce.{has_come, span_at}

-- the whole cycles from 1699-01-01 00:00:00 UTC to an instant in nanoseconds, so none before 2099
unfoldable pub cycles_at : ℤ → ℕ
cycles_at t = if int_lt t (neg_ℤ (pos 8551872000000000000)) then 0 else unsigned_abs (t +ℤ pos 8551872000000000000) / 12622780800000000000

-- 300 years, and 400 more for each of them: the year of the instant, and one more, are among them
unfoldable pub years_for : ℤ → ℕ
years_for t = cycles_at t * 400 + 300

-- the instant comes before the last of the first n years from 1800 on begins: the first year left out is its own and two more
abbrev pub AreEnough : ℕ → ℤ → Type 0
AreEnough n t = t <ℤ (pos 86400 *ℤ day (pos (earliest_year + n) -ℤ pos 1) 1 1 *ℤ pos 1000000000)

-- the total in force at an instant in nanoseconds
unfoldable pub total_for_ever : Rulesets → List ZoneInfo → ℤ → ℤ
total_for_ever rulesets infos t = total_at (schedule_over (years_for t) rulesets infos) t

abbrev pub span_told : Result FixedTimespanSet SpanFault → ℤ → Option FixedTimespan
span_told (Ok set) t = Some (span_at set t)
span_told (Err fault) t = None

-- the offset, the saving and the abbreviation then; none where there is a fault
unfoldable pub span_for_ever : Rulesets → List ZoneInfo → ℤ → Option FixedTimespan
span_for_ever rulesets infos t = span_told (compiled_over (years_for t) rulesets infos) t

-- none of the entries from 2100 on has come
unfoldable pub is_before_cycle : List Line → ℤ → Bool
is_before_cycle lines t = option_map_or (λ last. list_all (λ e. not (has_come t e)) (cycle_entries last)) (last_of lines) true

-- the instant is 2101-01-01 00:00:00 UTC or later
abbrev pub IsFrom2101 : ℤ → Type 0
IsFrom2101 t = pos 4133980800000000000 ≤ℤ t

-- an instant some cycles later
unfoldable pub instants_on : ℕ → ℤ → ℤ
instants_on zero t = t
instants_on (suc cycles) t = instants_on cycles (instant_on t)
