-- The years of day numbers, within the dates and past them.
use Rattle.std.proofs.{Common.{◌≡◌, ℕ, true, false, refl, ap, arith, ℤ, pos, neg_ℤ, ◌-ℤ◌, ◌≤ℤ◌, ◌<ℤ◌, int_le}, lemmas.Bool.{and_from}, lemmas.Int.{ints}}
use Rattle.basics.specs.{Dates.{year_of, month_of, day_of}, DateLaws.{last_with-is, day_parts, day-between, year-between}, Days.{is_leap, days_in_year, days_in_month, days_after_zero, year_start, days_through, days_into_year, day, IsCountedYear}}
use Rattle.basics.specs.{ComparisonLaws.{le_pass, le_fail}, SignedLaws.{signed}}
use Rattle.civil_base.specs.{Ranges.{first_day, last_day, IsDay, IsYear}, DayRangeLaws.{day-first, day-last, counted, new_year}}
use Rattle.tz_posix.specs.InForce.{is_year}

first_year : IsYear (neg_ℤ (pos 9999))
first_year = record { first = omega (arith, signed); last = omega (arith, signed) }

last_year : IsYear (pos 9999)
last_year = record { first = omega (arith, signed); last = omega (arith, signed) }

-- the days of the years have those years
year_of-inside : (k : ℤ) → IsDay k → IsYear (year_of k)
year_of-inside k inside =
    let parts = day_parts k (omega (arith, signed)) (omega (arith, signed)) in
    let year = year-between (year_of k) (month_of k) (day_of k) (neg_ℤ (pos 9999)) (pos 9999) parts.0
    (counted _ first_year) (counted _ last_year) parts.1.date
    (omega (arith, signed, day-first, parts.1.number)) (omega (arith, signed, day-last, parts.1.number)) in
    record { first = year.0; last = year.1 }

pub is_year-inside : (k : ℤ) → IsDay k → is_year (year_of k) ≡ true
is_year-inside k inside =
    let year = year_of-inside k inside in
    and_from _ _ (le_pass (neg_ℤ (pos 9999)) (year_of k) year.first) (le_pass (year_of k) (pos 9999) year.last)

pub year-from_test : (y : ℤ) → is_year y ≡ true → IsYear y
year-from_test y h = record { first = grind (arith, ints); last = grind (arith, ints) }

-- ---- and no others do
past_dates : day (pos 10000) 1 1 ≡ pos 2932897
unfolding is_leap days_in_year days_in_month days_after_zero year_start days_through days_into_year day
past_dates = refl

-- the year that `year_of` numbers n
abbrev numbered : ℕ → ℤ
numbered n = pos n -ℤ pos 10000

pub year_of-later : (k : ℤ) → last_day <ℤ k → year_of k ≡ pos 10000
unfolding year_of
year_of-later k later =
    ap numbered (last_with-is (λ n. int_le (day (numbered n) 1 1) k) 20000 20000 (omega arith)
    (λ _. le_pass (day (numbered 20000) 1 1) k (omega (arith, signed, past_dates)))
    (λ j above high. absurd (omega arith)))

pub year_of-earlier : (k : ℤ) → k <ℤ first_day → year_of k ≡ neg_ℤ (pos 10000)
unfolding year_of
year_of-earlier k earlier =
    ap numbered (last_with-is (λ n. int_le (day (numbered n) 1 1) k) 20000 0 (omega arith)
    (λ some. absurd (omega arith))
    (λ j above high. le_fail (day (numbered j) 1 1) k (before (numbered j) (omega (arith, signed)) (omega (arith, signed)))))
  where
    before : (y : ℤ) → neg_ℤ (pos 9999) ≤ℤ y → y ≤ℤ pos 10000 → k <ℤ day y 1 1
    before y low high =
        let last : IsCountedYear (pos 10000) = record { first = omega (arith, signed); last = omega (arith, signed) } in
        let inside = day-between y 1 1 (neg_ℤ (pos 9999)) (pos 10000) (counted _ first_year) last low high (new_year y) in
        omega (arith, signed, day-first, inside.0)

pub is_year-later : (k : ℤ) → last_day <ℤ k → is_year (year_of k) ≡ false
is_year-later k later = rw (year_of-later k later) refl

pub is_year-earlier : (k : ℤ) → k <ℤ first_day → is_year (year_of k) ≡ false
is_year-earlier k earlier = rw (year_of-earlier k earlier) refl
