-- What a set of spans stands for, and which sets can be looked up.
use Rattle.std.specs.{Prelude.{ℕ, zero, suc, slice_index_or, ◌+◌, ◌<◌, ◌≤◌, ◌<ℤ◌, Bool, ◌&&◌, nat_lt, List, length, map, All, IsTrue, ℤ, pos, neg_ℤ, ◌+ℤ◌, ◌≤ℤ◌, int_le, int_lt, if◌then◌else◌}, declared.cmp.Ordering.{Ordering}}
use Rattle.std.specs.declared.cmp.Ordering.TheVariants.{Less, Equal, Greater}
use Rattle.civil_base.specs.Ranges.{greatest_offset}
use Rattle.zone_spans.specs.{Bounds.{greatest_second}, Entries.{Entry, total}, Schedules.{Schedule, is_in_offset_range}, declared.span.FixedTimespan.{FixedTimespan}}
use Rattle.tz_lookup.specs.{declared.set.FixedTimespanSet.{FixedTimespanSet}, Spans.{Shift, shift_at, total_of, local_start, local_end, TimesDontFall, IsOrderly}}

-- an entry's second and total
abbrev pub shift_of : Entry → Shift
shift_of entry = (entry.0, total entry.1)

abbrev pub shifts_of : FixedTimespanSet → List Shift
shifts_of set = map shift_of set.others

-- the totals of the set
abbrev pub schedule_of : FixedTimespanSet → Schedule
schedule_of set = record { first = total set.first; shifts = shifts_of set }

abbrev pub total_of_span : FixedTimespanSet → ℕ → ℤ
total_of_span set i = total_of (total set.first) (shifts_of set) i

-- span i of the set
abbrev pub span_in : FixedTimespanSet → ℕ → FixedTimespan
span_in set zero = set.first
span_in set (suc i) = (slice_index_or set.others i (pos 0, set.first)).1

-- at most 2^40 in size
abbrev pub IsSpanTime : ℤ → Type 0
IsSpanTime second = (neg_ℤ (pos greatest_second) ≤ℤ second) × (second ≤ℤ pos greatest_second)

abbrev pub AreSpanTimes : List Shift → Type 0
AreSpanTimes shifts = All (λ s. IsSpanTime s.0) shifts

-- each total is an offset, the times don't fall, and they are at most 2^40 seconds in size
pub record IsAccepted (zone : Schedule) : Type 0 where
  pub range : IsTrue (is_in_offset_range zone)
  pub times : TimesDontFall zone.shifts
  pub bound : AreSpanTimes zone.shifts

abbrev pub IsOrderlyZone : Schedule → Type 0
IsOrderlyZone zone = IsOrderly zone.first zone.shifts

abbrev pub has_ended : Schedule → ℕ → ℤ → Bool
has_ended zone i x = nat_lt i (length zone.shifts) && int_le (local_end zone.first zone.shifts i) x

abbrev pub is_ahead : Schedule → ℕ → ℤ → Bool
is_ahead zone i x = nat_lt 0 i && int_lt x (local_start zone.shifts i)

-- whether span i lies before, at or after the local second x
abbrev pub order_of : Schedule → ℕ → ℤ → Ordering
order_of zone i x = if has_ended zone i x then Less else (if is_ahead zone i x then Greater else Equal)

-- whether the last shift at or before a second lies after shift i, is it, or lies before it
abbrev pub order_at : List Shift → ℕ → ℤ → Ordering
order_at shifts i x =
    if int_lt x (shift_at shifts i).0 then Greater
    else (if nat_lt (i + 1) (length shifts) && int_le (shift_at shifts (i + 1)).0 x then Less else Equal)

-- the shifts before low are at or before a second, and those from high on after it
pub record IsBetween (shifts : List Shift) (low high : ℕ) (second : ℤ) : Type 0 where
  pub order : low ≤ high
  pub within : high ≤ length shifts
  pub before : (j : ℕ) → j < low → (shift_at shifts j).0 ≤ℤ second
  pub after : (j : ℕ) → high ≤ j → j < length shifts → second <ℤ (shift_at shifts j).0

-- the shifts before low lie the greatest offset before a local second, or more, and those from high on lie further than that after it
pub record IsNear (shifts : List Shift) (low high : ℕ) (second : ℤ) : Type 0 where
  pub order : low ≤ high
  pub within : high ≤ length shifts
  pub before : (j : ℕ) → j < low → ((shift_at shifts j).0 +ℤ pos greatest_offset) ≤ℤ second
  pub after : (j : ℕ) → high ≤ j → j < length shifts → (second +ℤ pos greatest_offset) <ℤ (shift_at shifts j).0
