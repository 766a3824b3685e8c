-- The years of seconds, by clocks of standard time.
use Rattle.std.{proofs.Common.{◌≡◌, ℤ, pos, neg_ℤ, ◌+ℤ◌, ◌*ℤ◌, ◌≤ℤ◌, ◌<ℤ◌, refl, arith, unsigned_abs}, specs.Int.{int_div_euclid}, proofs.lemmas.Int.{by_lt_z}}
use Rattle.basics.specs.{Dates.{year_of}, DateLaws.{IsYearOf, day-range, place_of, year_of-is}, Days.{day, is_leap, days_in_year, days_in_month, days_after_zero, year_start, days_through, days_into_year, IsCountedYear}, MonthLaws.{days_through-two}}
use Rattle.basics.specs.{SignedLaws.{signed, natural}, YearLaws.{cycle_days-rise, day-cycle}}
use Rattle.tz_posix.specs.InForce.{year_at}
use Rattle.civil_base.specs.{RangeLaws.{offset_greatest, offset_least}, Ranges.{IsOffset}}
use Rattle.zone_tail.specs.Rules.{IsNearYear, IsReach}

-- a second of a year
pub record IsInYear (offset y second : ℤ) : Type 0 where
  pub begun : (pos 86400 *ℤ day y 1 1) ≤ℤ (second +ℤ offset)
  pub not_over : (second +ℤ offset) <ℤ (pos 86400 *ℤ day (y +ℤ pos 1) 1 1)

pub year_starts-rise : (y z : ℤ) → IsCountedYear y → z ≤ℤ pos 10001 → y ≤ℤ z → day y 1 1 ≤ℤ day z 1 1
year_starts-rise y z here last rise =
    let n = unsigned_abs (y +ℤ pos 11999) in
    let l = unsigned_abs (z +ℤ pos 11999) in
    let first = place_of y here in
    let second : z +ℤ pos 11999 ≡ pos l = natural (z +ℤ pos 11999) (omega (arith, signed, here.first)) in
    omega (
      arith,
      signed,
      day-cycle y 1 1 n first,
      day-cycle z 1 1 l second,
      cycle_days-rise n l (omega (arith, signed)),
      days_through-two y,
      days_through-two z,
    )

day-1700 : day (pos 1700) 1 1 ≡ neg_ℤ (pos 98615)
unfolding is_leap days_in_year days_in_month days_after_zero year_start days_through days_into_year day
day-1700 = refl

day-2301 : day (pos 2301) 1 1 ≡ pos 120895
unfolding is_leap days_in_year days_in_month days_after_zero year_start days_through days_into_year day
day-2301 = refl

in_year : (offset second k y : ℤ) → k ≡ int_div_euclid (second +ℤ offset) (pos 86400) → day y 1 1 ≤ℤ k → k <ℤ day (y +ℤ pos 1) 1 1
    → IsInYear offset y second
in_year offset second k y is begun next = record { begun = omega (arith, signed, is); not_over = omega (arith, signed, is) }

-- the day of a second that is near
pub day_near : (offset second : ℤ) → IsOffset offset → IsReach second → (neg_ℤ (pos 69446) ≤ℤ int_div_euclid (second +ℤ offset) (pos 86400))
    × (int_div_euclid (second +ℤ offset) (pos 86400) ≤ℤ pos 69446)
day_near offset second small reach = (
  omega (arith, signed, offset_least offset small, reach.least),
  omega (arith, signed, offset_greatest offset small, reach.greatest),
)

pub day_of_reach : (offset second : ℤ) → IsOffset offset → IsReach second → IsYearOf (year_of (int_div_euclid (second +ℤ offset) (pos 86400))) (int_div_euclid (second +ℤ offset) (pos 86400))
day_of_reach offset second small reach =
    let near = day_near offset second small reach in
    year_of-is (int_div_euclid (second +ℤ offset) (pos 86400)) (omega (arith, signed, near.0)) (omega (arith, signed, near.1))

-- it lies in its year
pub year_at-in : (offset second : ℤ) → IsOffset offset → IsReach second → IsInYear offset (year_at offset second) second
unfolding year_at
year_at-in offset second small reach =
    let year = day_of_reach offset second small reach in
    in_year offset second _ _ refl year.begun year.next

-- the years that a second lies in are one
one_year : (offset second y z : ℤ) → IsCountedYear y → IsCountedYear z → IsInYear offset y second → IsInYear offset z second → z ≤ℤ y
one_year offset second y z here there a b =
    by_lt_z {P = z ≤ℤ y} y z
    (λ lt. absurd (omega (arith, signed, a.not_over, b.begun, year_starts-rise (y +ℤ pos 1) z (next y here z there lt) (omega (arith, signed, there.last)) (omega (arith, signed)))))
    (λ le. le)
  where
    next : (y : ℤ) → IsCountedYear y → (z : ℤ) → IsCountedYear z → y <ℤ z → IsCountedYear (y +ℤ pos 1)
    next y here z there lt = record { first = omega (arith, signed, here.first); last = omega (arith, signed, there.last) }

pub near_counted : (y : ℤ) → IsNearYear y → IsCountedYear y
near_counted y h = record { first = omega (arith, signed, h.first); last = omega (arith, signed, h.last) }

next_counted : (y : ℤ) → IsNearYear y → IsCountedYear (y +ℤ pos 1)
next_counted y h = record { first = omega (arith, signed, h.first); last = omega (arith, signed, h.last) }

-- it is the only year that it lies in
pub year_at-is : (offset second y : ℤ) → IsNearYear y → IsInYear offset y second → year_at offset second ≡ y
unfolding year_at
year_at-is offset second y near inside =
    let here = near_counted y near in
    let low = day-range y 1 1 here (omega arith) (omega arith) (omega arith) (omega arith) in
    let high = day-range (y +ℤ pos 1) 1 1 (next_counted y near) (omega arith) (omega arith) (omega arith) (omega arith) in
    let k = int_div_euclid (second +ℤ offset) (pos 86400) in
    let year = year_of-is k (omega (arith, signed, inside.begun, low.0)) (omega (arith, signed, inside.not_over, high.1)) in
    let there = in_year offset second _ _ refl year.begun year.next in
    omega (arith, signed, one_year offset second _ _ year.counted here there inside, one_year offset second _ _ here year.counted inside there)

-- and it is near
pub year_near : (offset second : ℤ) → IsOffset offset → IsReach second → IsNearYear (year_at offset second)
unfolding year_at
year_near offset second small reach =
    let near = day_near offset second small reach in
    let year = day_of_reach offset second small reach in
    let y = year_of (int_div_euclid (second +ℤ offset) (pos 86400)) in
    record {
      first = by_lt_z {P = pos 1700 ≤ℤ y} y (pos 1700)
          (λ lt. absurd (omega (arith, signed, near.0, year.next, day-1700, year_starts-rise (y +ℤ pos 1) (pos 1700) (record { first = omega (arith, signed, year.counted.first); last = omega (arith, signed) }) (omega (arith, signed)) (omega (arith, signed)))))
          (λ le. le);
      last = by_lt_z {P = y ≤ℤ pos 2300} (pos 2300) y
          (λ lt. absurd (omega (arith, signed, near.1, year.begun, day-2301, year_starts-rise (pos 2301) y (record { first = omega (arith, signed); last = omega (arith, signed) }) (omega (arith, signed, year.counted.last)) (omega (arith, signed)))))
          (λ le. le);
    }
