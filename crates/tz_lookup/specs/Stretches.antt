-- The total offset at a second, and how long it is in force.
use Rattle.std.specs.Prelude.{◌≡◌, ℕ, zero, suc, List, filter, length, nat_lt, if◌then◌else◌, ℤ, pos, negsuc, ◌≤ℤ◌, ◌<ℤ◌, int_le}
use Rattle.civil_base.specs.Instants.{nanos_of}
use Rattle.zone_spans.specs.Schedules.{Schedule}
use Rattle.tz_lookup.specs.{Spans.{Shift, shift_at}, declared.stretch.Stretch.{Stretch}}

-- its total is that of all its seconds, of which there may be none, where each instant has a total
abbrev pub IsKnown : (ℤ → ℤ) → Stretch → Type 0
IsKnown total stretch = (u : ℤ) → stretch.from ≤ℤ u → u <ℤ stretch.until → total (nanos_of u) ≡ stretch.offset

-- and that of a second, which isn't before them
pub record IsStretch (total : ℤ → ℤ) (second : ℤ) (stretch : Stretch) : Type 0 where
  pub begun : stretch.from ≤ℤ second
  pub here : total (nanos_of second) ≡ stretch.offset
  pub throughout : IsKnown total stretch

abbrev pub least_second : ℤ
least_second = negsuc 9223372036854775807

-- the second from which a span is in force, by its number: the first from the least of all on
abbrev pub begin_second : ℤ → List Shift → ℕ → ℤ
begin_second least shifts zero = least
begin_second least shifts (suc k) = (shift_at shifts k).0

abbrev pub greatest_second : ℤ
greatest_second = pos 9223372036854775807

-- and the second up to which it is: the last up to the greatest of all
abbrev pub end_second : ℤ → List Shift → ℕ → ℤ
end_second greatest shifts k = if nat_lt k (length shifts) then (shift_at shifts k).0 else greatest

-- how many entries come up to a second: the number of the span in force there
abbrev pub count_until : List Shift → ℤ → ℕ
count_until shifts second = length (filter (λ (shift : Shift). int_le shift.0 second) shifts)

-- the second from which is in force what is at a second, and the one up to which it is: those of the entries around it
unfoldable pub stretch_begin : Schedule → ℤ → ℤ
stretch_begin zone second = begin_second least_second zone.shifts (count_until zone.shifts second)

unfoldable pub stretch_end : Schedule → ℤ → ℤ
stretch_end zone second = end_second greatest_second zone.shifts (count_until zone.shifts second)
