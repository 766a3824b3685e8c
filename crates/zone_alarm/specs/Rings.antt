-- When an alarm rings that is set to a time of day.
use Rattle.std.specs.{Prelude.{ℕ, Bool, ◌-◌, ◌==◌, ◌||◌, List, Option, map, ℤ, pos, ◌+ℤ◌, ◌*ℤ◌, int_le}, List.{range_with_len, slice_get}}
use Rattle.civil_base.specs.{Clock.{nanos_per_day}, Ranges.{last_day}}
use Rattle.tz_lookup.specs.InForce.{all_in_force}

-- the local time of a day at a time of day
abbrev pub time_on : ℤ → ℕ → ℤ
time_on day at = day *ℤ pos nanos_per_day +ℤ pos at

-- of the instants that a zone of these totals reads as that local time, the first, with the total in force; none in a gap
unfoldable pub ring_on : (ℤ → ℤ) → ℕ → ℤ → Option (ℤ × ℤ)
ring_on total at day = slice_get (all_in_force total (time_on day at)) 0

-- a day and its ring
abbrev pub day_ring : (ℤ → ℤ) → ℕ → ℤ → ℤ × Option (ℤ × ℤ)
day_ring total at day = (day, ring_on total at day)

-- one for each of so many days, from the first on
unfoldable pub rings : (ℤ → ℤ) → ℕ → ℤ → ℕ → List (ℤ × Option (ℤ × ℤ))
rings total at first days = map (λ n. day_ring total at (first +ℤ pos n)) (range_with_len 0 days)

-- there is no day, or the last is at most 9999-12-31
abbrev pub ends_in_years : ℤ → ℕ → Bool
ends_in_years first days = days == 0 || int_le (first +ℤ pos (days - 1)) last_day
