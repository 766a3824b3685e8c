-- The dates of the day numbers of the years.
use Rattle.std.proofs.Common.{◌≡◌, ℤ, pos, neg_ℤ}
use Rattle.basics.specs.{Days.{day, IsDate}, Dates.{year_of, month_of, day_of}, DateLaws.{day_parts, year-between}}
use Rattle.civil_base.specs.{Ranges.{IsYear, IsDay}, DayRangeLaws.{counted-first, counted-last, day-counted, day-ends}}

-- the day has a date of those years
pub record HasDate (k : ℤ) : Type 0 where
  pub year : IsYear (year_of k)
  pub date : IsDate (year_of k) (month_of k) (day_of k)
  pub number : day (year_of k) (month_of k) (day_of k) ≡ k

pub date_of-day : (k : ℤ) → IsDay k → HasDate k
date_of-day k h =
    let counted = day-counted k h in
    let parts = day_parts k counted.0 counted.1 in
    let ends = day-ends k h in
    let years = year-between (year_of k) (month_of k) (day_of k) (neg_ℤ (pos 9999))
    (pos 9999) parts.0 counted-first counted-last parts.1.date (rw parts.1.number ends.0) (rw parts.1.number ends.1) in
    record {
      year = record { first = years.0; last = years.1 };
      date = parts.1.date;
      number = parts.1.number;
    }
