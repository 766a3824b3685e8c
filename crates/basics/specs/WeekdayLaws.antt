-- The weekdays of later days, and the last day with a weekday.
use Rattle.std.proofs.{Common.{◌≡◌, ℕ, ◌+◌, ◌-◌, ◌%◌, ◌<◌, ◌≤◌, arith, eq-eqb, nat_eq, ℤ, pos, ◌+ℤ◌, unsigned_abs}, lemmas.Bool.Decides.{nat_tests}}
use Rattle.basics.specs.{Dates.{last_with}, DateLaws.{last_with-is, place_of}, Days.{day, IsCountedYear}, SignedLaws.{signed, floored}, Weekdays.{weekday_of}, YearLaws.{day-cycle}}

pub weekday_of-small : (k : ℤ) → weekday_of k < 7
unfolding weekday_of
weekday_of-small k = omega (arith, signed, floored (k +ℤ pos 4) 7)

-- the weekday of a day n days later
pub weekday_of-later : (k : ℤ) (n : ℕ) → weekday_of (k +ℤ pos n) ≡ (weekday_of k + n) % 7
unfolding weekday_of
weekday_of-later k n = omega (arith, signed, floored (k +ℤ pos 4) 7, floored (k +ℤ pos n +ℤ pos 4) 7)

-- the days of a month follow its first
pub day-from_first : (y : ℤ) (m d : ℕ) → IsCountedYear y → 1 ≤ d → day y m d ≡ day y m 1 +ℤ pos (d - 1)
day-from_first y m d years some =
    let n = unsigned_abs (y +ℤ pos 11999) in
    let here = place_of y years in
    omega (arith, signed, day-cycle y m d n here, day-cycle y m 1 n here)

pub weekday_in_month : (y : ℤ) (m d : ℕ) → IsCountedYear y → 1 ≤ d → weekday_of (day y m d) ≡ (weekday_of (day y m 1) + (d - 1)) % 7
weekday_in_month y m d years some = rw (day-from_first y m d years some) (weekday_of-later (day y m 1) (d - 1))

-- the last of a month's first l days with a weekday is the one of their last seven that has it
pub last_with_weekday : (y : ℤ) (m w l i : ℕ) → IsCountedYear y → w < 7 → 1 ≤ i → i ≤ l → l < i + 7
    → (weekday_of (day y m 1) + (i - 1)) % 7 ≡ w → last_with (λ d. nat_eq (weekday_of (day y m d)) w) l ≡ i
last_with_weekday y m w l i years small some high near is =
    last_with-is (λ d. nat_eq (weekday_of (day y m d)) w) l i high
    (λ _. rw (weekday_in_month y m i years some) (eq-eqb _ _ is))
    (λ j above last. let from_first : 1 ≤ j = omega arith in rw (weekday_in_month y m j years from_first) (grind (arith, nat_tests)))
