-- The schedule of a zone, and the offset that it has in force.
use Rattle.std.specs.{Prelude.{ℕ, zero, suc, Bool, ◌&&◌, List, [], ◌∷◌, map, filter, Result, Ok, Err, ℤ, pos, ◌-ℤ◌, ◌*ℤ◌, int_le}, List.{list_all}, Ordering.{int_eq}}
use Rattle.basics.specs.Offsets.{greatest_offset, instant_at, is_offset}
use Rattle.zone_table.specs.declared.zone.ZoneInfo.{ZoneInfo}
use Rattle.zone_spans.specs.{Compiled.{compiled, compiled_over}, Entries.{total}, Lines.{Rulesets}, declared.fault.SpanFault.{SpanFault}, declared.span.FixedTimespanSet.{FixedTimespanSet}}

-- the total offset before the first shift, and the shifts: each a second since 1970-01-01 00:00:00 UTC and the total from then on
pub record Schedule : Type 0 where
  pub first : ℤ
  pub shifts : List (ℤ × ℤ)

-- the same total for good
abbrev pub fixed : ℤ → Schedule
fixed total = record { first = total; shifts = [] }

-- the totals of a set of spans
unfoldable pub totals_of : FixedTimespanSet → Schedule
totals_of set = record { first = total set.first; shifts = map (λ e. (e.0, total e.1)) set.rest }

abbrev pub totals_told : Result FixedTimespanSet SpanFault → Schedule
totals_told (Ok set) = totals_of set
totals_told (Err fault) = fixed (pos 0)

-- the schedule of a zone with these lines; no offset where there is a fault
unfoldable pub schedule_of_lines : Rulesets → List ZoneInfo → Schedule
schedule_of_lines rulesets lines = totals_told (compiled rulesets lines)

-- where its lines expand so many years
unfoldable pub schedule_over : ℕ → Rulesets → List ZoneInfo → Schedule
schedule_over most rulesets lines = totals_told (compiled_over most rulesets lines)

abbrev pub last_total : ℤ → List (ℤ × ℤ) → ℤ
last_total total [] = total
last_total total (shift ∷ shifts) = last_total shift.1 shifts

-- the total in force at an instant in nanoseconds: that of the last shift at or before it
unfoldable pub total_at : Schedule → ℤ → ℤ
total_at schedule instant = last_total schedule.first (filter (λ shift. int_le (shift.0 *ℤ pos 1000000000) instant) schedule.shifts)

-- every total is less than 26 hours in size
abbrev pub is_in_offset_range : Schedule → Bool
is_in_offset_range schedule = is_offset schedule.first && list_all (λ shift. is_offset shift.1) schedule.shifts

-- n whole numbers, from the first on down
abbrev pub down_from : ℤ → ℕ → List ℤ
down_from o zero = []
down_from o (suc n) = o ∷ down_from (o -ℤ pos 1) n

-- how many there are: the greatest offset twice, and 0
unfoldable pub offset_count : ℕ
offset_count = 187199

-- the offsets, from the greatest down to the least
unfoldable pub offsets : List ℤ
offsets = down_from (pos greatest_offset) offset_count

-- the instants that are read as a local time where this total is in force at each: by time, those that some offset gives
unfoldable pub instants : (ℤ → ℤ) → ℤ → List ℤ
instants total time = map (instant_at time) (filter (λ o. int_eq (total (instant_at time o)) o) offsets)
