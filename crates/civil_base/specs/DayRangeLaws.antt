-- The ends of the ranges as numbers.
use Rattle.std.{specs.Int.{int_div_euclid}, proofs.Common.{◌≡◌, refl, arith, ℕ, ◌<◌, ◌+ℤ◌, ℤ, pos, neg_ℤ, ◌≤ℤ◌, ◌*ℤ◌}}
use Rattle.basics.specs.{Days.{is_leap, days_in_year, days_in_month, days_after_zero, days_before_zero, year_start, days_through, days_into_year, day, IsCountedYear, IsDate}, DateLaws.{day-between}, MonthLaws.{days_in_month-january}, SignedLaws.{signed}}
use Rattle.civil_base.specs.{Clock.{nanos_per_day}, Ranges.{first_day, last_day, IsDay, IsInYears, IsYear}, RangeLaws.{years_begin, years_end, years_between}}

pub day-first : day (neg_ℤ (pos 9999)) 1 1 ≡ first_day
unfolding is_leap days_in_year days_in_month days_after_zero days_before_zero year_start days_through days_into_year day
day-first = refl

pub day-last : day (pos 9999) 12 31 ≡ last_day
unfolding is_leap days_in_year days_in_month days_after_zero days_before_zero year_start days_through days_into_year day
day-last = refl

-- the years of dates can be counted in
pub counted : (y : ℤ) → IsYear y → IsCountedYear y
counted y h = record { first = omega (arith, signed); last = omega (arith, signed) }

pub counted-first : IsCountedYear (neg_ℤ (pos 9999))
counted-first = record { first = omega (arith, signed); last = omega (arith, signed) }

pub counted-last : IsCountedYear (pos 9999)
counted-last = record { first = omega (arith, signed); last = omega (arith, signed) }

-- the dates of those years have the days of those years
pub date-inside : (y : ℤ) (m d : ℕ) → IsYear y → IsDate y m d → IsDay (day y m d)
date-inside y m d year date =
    let inside = day-between y m d (neg_ℤ (pos 9999)) (pos 9999) counted-first counted-last year.first year.last date in
    record { first = omega (arith, signed, inside.0, day-first); last = omega (arith, signed, inside.1, day-last) }

pub new_year : (y : ℤ) → IsDate y 1 1
new_year y = record {
  first_month = omega arith;
  last_month = omega arith;
  first_day = omega arith;
  last_day = omega (
    arith,
    days_in_month-january y,
  );
}

pub day-counted : (k : ℤ) → IsDay k → (neg_ℤ (pos 4371953) ≤ℤ k) × (k ≤ℤ pos 2933262)
day-counted k h = (omega (arith, signed), omega (arith, signed))

-- a day of the years and a time of day make a local time in the years
pub years-joined : (k : ℤ) (t : ℕ) → IsDay k → t < nanos_per_day → IsInYears (k *ℤ pos nanos_per_day +ℤ pos t)
years-joined k t h b = years_between (k *ℤ pos nanos_per_day +ℤ pos t) (omega (arith, signed)) (omega (arith, signed))

-- and the day of a local time in the years is one of the years
pub day-inside : (x : ℤ) → IsInYears x → IsDay (int_div_euclid x (pos nanos_per_day))
day-inside x h = record {
  first = omega (arith, signed, years_begin x h);
  last = omega (arith, signed, years_end x h);
}

-- a day of the years by numbers
pub day-numbers : (k : ℤ) → IsDay k → (neg_ℤ (pos 4371587) ≤ℤ k) × (k ≤ℤ pos 2932896)
day-numbers k h = (omega (arith, signed), omega (arith, signed))

-- the same by dates
pub day-ends : (k : ℤ) → IsDay k → (day (neg_ℤ (pos 9999)) 1 1 ≤ℤ k) × (k ≤ℤ day (pos 9999) 12 31)
day-ends k h = (omega (arith, signed, day-first), omega (arith, signed, day-last))

pub day-from_ends : (k : ℤ) → day (neg_ℤ (pos 9999)) 1 1 ≤ℤ k → k ≤ℤ day (pos 9999) 12 31 → IsDay k
day-from_ends k low high = record {
  first = omega (arith, signed, day-first);
  last = omega (arith, signed, day-last);
}
