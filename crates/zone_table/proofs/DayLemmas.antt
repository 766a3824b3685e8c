-- What the day with a weekday is: on its side of the day that it is counted from, with that weekday, and the nearest such
-- day; the last one of a month lies in the month.
use Rattle.std.proofs.{Common.{◌≡◌, ℕ, ◌+◌, ◌-◌, ◌%◌, ◌<◌, ℤ, pos, ◌+ℤ◌, ◌-ℤ◌, ◌≤ℤ◌, inl, inr, arith}, lemmas.Bool.{cases_lt}, lemmas.Int.{ints}}
use Rattle.basics.specs.{Days.{days_in_month, days_into_year, day}, MonthLaws.{days_in_month-bounds}, WeekdayLaws.{weekday_of-later, weekday_of-small}, Weekdays.{weekday_of}}
use Rattle.zone_table.specs.{Days.{first_from, last_up_to, named_day}, Months.{month_number}, WeekdayLaws.{first_from-is, weekday_number-small}, Weekdays.{weekday_number}, declared.day.DaySpec.TheVariants.{Last}, declared.month.Month.{Month}, declared.weekday.Weekday.{Weekday}}

-- `first_from` gives a day with the weekday
pub weekday_of-first_from : (weekday : ℕ) (k : ℤ) → weekday < 7 → weekday_of (first_from weekday k) ≡ weekday
weekday_of-first_from weekday k small =
    let start = weekday_of-small k in
    rw (first_from-is weekday k small, weekday_of-later) (omega arith)

-- and the least from k on
pub first_from-least : (weekday : ℕ) (k : ℤ) (n : ℕ) → weekday < 7 → weekday_of (k +ℤ pos n) ≡ weekday →
    first_from weekday k ≤ℤ (k +ℤ pos n)
first_from-least weekday k n small same =
    let start = weekday_of-small k in
    let there : (weekday_of k + n) % 7 ≡ weekday = rw (weekday_of-later k n) at same in
    rw (first_from-is weekday k small) (omega (arith, ints))

-- `last_up_to` gives the greatest day up to k with the weekday
pub last_up_to-greatest : (weekday : ℕ) (k : ℤ) (n : ℕ) → weekday < 7 → weekday_of (k -ℤ pos n) ≡ weekday →
    (k -ℤ pos n) ≤ℤ last_up_to weekday k
last_up_to-greatest weekday k n small same =
    let week = k -ℤ pos 6 in
    let start = weekday_of-small week in
    rw (first_from-is weekday week small) (elim (cases_lt 6 n) [
      | inl far ↦ omega (arith, ints)
      | inr near ↦
          let step : k -ℤ pos n ≡ week +ℤ pos (6 - n) = omega (arith, ints) in
          let there : (weekday_of week + (6 - n)) % 7 ≡ weekday = rw (step, weekday_of-later week (6 - n)) at same in
          omega (arith, ints)
    ])

pub first_from-after : (weekday : ℕ) (k : ℤ) → weekday < 7 → k ≤ℤ first_from weekday k
first_from-after weekday k small = rw (first_from-is weekday k small) (omega (arith, ints))

pub first_from-within : (weekday : ℕ) (k : ℤ) → weekday < 7 → first_from weekday k ≤ℤ (k +ℤ pos 6)
first_from-within weekday k small = rw (first_from-is weekday k small) (omega (arith, ints))

pub last_up_to-before : (weekday : ℕ) (k : ℤ) → weekday < 7 → last_up_to weekday k ≤ℤ k
last_up_to-before weekday k small = let week = first_from-within weekday (k -ℤ pos 6) small in omega (arith, ints)

pub weekday_of-last_up_to : (weekday : ℕ) (k : ℤ) → weekday < 7 → weekday_of (last_up_to weekday k) ≡ weekday
weekday_of-last_up_to weekday k small = weekday_of-first_from weekday (k -ℤ pos 6) small

week_in_month : (y : ℤ) (m : ℕ) → day y m 1 ≤ℤ (day y m (days_in_month y m) -ℤ pos 6)
unfolding days_into_year day
week_in_month y m = omega (arith, ints, (days_in_month-bounds y m).0)

pub last_of_month : (w : Weekday) (y : ℤ) (m : Month) → let n = month_number m in
    (day y n 1 ≤ℤ named_day (Last w) y m) × (named_day (Last w) y m ≤ℤ day y n (days_in_month y n))
unfolding named_day
last_of_month w y m =
    let n = month_number m in
    let last = day y n (days_in_month y n) in
    let small = weekday_number-small w in
    let first = week_in_month y n in
    let from = first_from-after (weekday_number w) (last -ℤ pos 6) small in
    (omega (arith, ints), last_up_to-before (weekday_number w) last small)
