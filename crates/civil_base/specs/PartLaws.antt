-- The day and the time of day of a local time.
use Rattle.std.proofs.Common.{◌≡◌, arith, ℕ, ◌+◌, ◌*◌, ◌/◌, ◌%◌, ◌<◌, ℤ, pos, ◌+ℤ◌, ◌*ℤ◌}
use Rattle.basics.specs.SignedLaws.{signed}
use Rattle.civil_base.specs.{Clock.{nanos_per_day}, Ranges.{IsDay, IsInYears}, Layout.{day_part, time_part}, DayRangeLaws.{day-inside}}

pub day_part-inside : (x : ℤ) → IsInYears x → IsDay (day_part x)
unfolding day_part
day_part-inside x h = day-inside x h

pub time_part-inside : (x : ℤ) → time_part x < nanos_per_day
unfolding time_part
time_part-inside x = omega (arith, signed)

pub parts-joined : (x : ℤ) → day_part x *ℤ pos nanos_per_day +ℤ pos (time_part x) ≡ x
unfolding day_part time_part
parts-joined x = omega (arith, signed)

-- the parts by blocks of 65,536 nanoseconds from the first date, of which a day has 1,318,359,375
pub day_part-blocks : (x : ℤ) (b r : ℕ) → pos (b * 65536 + r) ≡ x +ℤ pos 377705116800000000000 → r < 65536
    → day_part x +ℤ pos 4371587 ≡ pos (b / 1318359375)
unfolding day_part
day_part-blocks x b r e h = omega (arith, signed)

pub time_part-blocks : (x : ℤ) (b r : ℕ) → pos (b * 65536 + r) ≡ x +ℤ pos 377705116800000000000 → r < 65536
    → time_part x ≡ b % 1318359375 * 65536 + r
unfolding time_part
time_part-blocks x b r e h = omega (arith, signed)
