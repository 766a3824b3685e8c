-- Days of the year.
use Rattle.std.proofs.Common.{◌≡◌, arith, ℕ, ℤ, pos, ◌+ℤ◌, ◌-ℤ◌, to_z, of_z, w32}
use Rattle.basics.specs.{Days.{day}, Dates.{year_of, month_of, day_of}, DateLaws.{day-into_year, day-last_of_year, days_into_year-bound, last_date}, MonthLaws.{days_in_year-bounds}, SignedLaws.{signed, signed_casts}}
use Rattle.civil_base.specs.{Ordinals.{IsOrdinal, ordinal_day, ordinal_of}, Ranges.{IsYear, IsDay}, DayLaws.{date_of-day}, DayRangeLaws.{counted, date-inside, day-counted, new_year}}

-- a day is the one of its year that its place says
pub ordinal_day-of : (k : ℤ) → IsDay k → ordinal_day (year_of k) (ordinal_of k) ≡ k
unfolding ordinal_day ordinal_of
ordinal_day-of k h =
    let date = date_of-day k h in
    omega (arith, signed, day-into_year (year_of k) (month_of k) (day_of k) (counted (year_of k) date.year), date.number)

pub ordinal_of-inside : (k : ℤ) → IsDay k → IsOrdinal (year_of k) (ordinal_of k)
unfolding ordinal_of
ordinal_of-inside k h =
    let date = date_of-day k h in
    let few = days_into_year-bound (year_of k) (month_of k) (day_of k) date.date in
    record { first = omega arith; last = omega arith }

pub new_year-inside : (y : ℤ) → IsYear y → IsDay (day y 1 1)
new_year-inside y year = date-inside y 1 1 year (new_year y)

pub ordinal_day-inside : (y : ℤ) (n : ℕ) → IsYear y → IsOrdinal y n → IsDay (ordinal_day y n)
unfolding ordinal_day
ordinal_day-inside y n year place =
    let first = new_year-inside y year in
    let last = date-inside y 12 31 year (last_date y) in
    record {
      first = omega (arith, signed);
      last = omega (arith, signed, day-last_of_year y (counted y year));
    }

-- the place of a day in its year, as the code counts it
abbrev pub place : ℤ → ℤ → ℤ
place k first = to_z w32 (of_z w32 (to_z w32 (of_z w32 (to_z w32 (of_z w32 k) -ℤ to_z w32 (of_z w32 first))) +ℤ pos 1))

pub place_is : (k : ℤ) (y : ℤ) (first : ℤ) → IsDay k → y ≡ year_of k → first ≡ day y 1 1 → place k first ≡ pos (ordinal_of k)
unfolding ordinal_day
place_is k y first h e f =
    let here = ordinal_day-of k h in
    let inside = ordinal_of-inside k h in
    let begin = new_year-inside (year_of k) (date_of-day k h).year in
    let start : first ≡ day (year_of k) 1 1 = rw (← e) f in
    omega (arith, signed_casts, days_in_year-bounds (year_of k))

-- 32 bits hold the number of a day
pub kept-day : (k : ℤ) → IsDay k → to_z w32 (of_z w32 k) ≡ k
kept-day k inside = omega (arith, signed_casts, day-counted k inside)
