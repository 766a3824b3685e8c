use Rattle.std.proofs.Common.{arith, ◌≡◌, ◌≤◌, ◌<◌, ℕ, ◌+◌, ℤ, pos, neg_ℤ, ◌+ℤ◌, ◌-ℤ◌, ◌≤ℤ◌, to_z, of_z, w32, sym, ap, ◌∙◌, unsigned_abs}
use Rattle.basics.specs.{Days.{IsCountedYear}, Dates.{year_of, month_of, day_of}, Cycles.{cycle_days}, SignedLaws.{signed, signed_casts, natural}, YearLaws.{day-cycle, cycle_days-suc, cycle_days-rise}, DateLaws.{IsPlace, parts-of_day, year-between}}
use Rattle.basics.proofs.days.date_of.Goals as goal

-- the year with that place among those from -11999 on
abbrev year_at : ℕ → ℤ
year_at n = to_z w32 (of_z w32 (to_z w32 n -ℤ pos 11999))

place_is : (n : ℕ) → n < 30000 → IsPlace (year_at n) n
place_is n h = omega (arith, signed_casts)

few_years : (n r k : ℕ) → cycle_days n + r ≡ k → k ≤ 8035334 → n < 30000
few_years n r k e h = omega arith

-- the days from 1 January -11999 to the day
abbrev count : ℤ → ℕ
count k = unsigned_abs (to_z w32 (of_z w32 (to_z w32 (of_z w32 k) +ℤ pos 5102072)))

counted : (k : ℤ) → neg_ℤ (pos 4371953) ≤ℤ k → k ≤ℤ pos 2933262 → pos (count k) ≡ k +ℤ pos 5102072
counted k low high =
    let sum : to_z w32 (of_z w32 (to_z w32 (of_z w32 k) +ℤ pos 5102072)) ≡ k +ℤ pos 5102072 = omega (arith, signed_casts) in
    ap (λ z. pos (unsigned_abs z)) sum ∙ sym (natural (k +ℤ pos 5102072) (omega (arith, signed)))

pub month_and_day-month-requires : goal.month_and_day-month-requires
month_and_day-month-requires c =
    let n = c.years_of_days-years.result.0 in
    let all = counted c.args.day_number c.requires.first c.requires.last in
    let few = few_years n _ _ c.years_of_days-years.ensures.sum (omega (arith, signed, all)) in
    omega (arith, cycle_days-suc (year_at n) n (place_is n few))

few_of : (c : goal.After-month_and_day-month) → c.years_of_days-years.result.0 < 30000
few_of c =
    let all = counted c.args.day_number c.requires.first c.requires.last in
    few_years c.years_of_days-years.result.0 _ _ c.years_of_days-years.ensures.sum (omega (arith, signed, all))

pub returns-clause-number : goal.returns-clause-number
returns-clause-number c =
    let n = c.years_of_days-years.result.0 in
    let y = year_at n in
    let all = counted c.args.day_number c.requires.first c.requires.last in
    omega (
      arith,
      signed,
      all,
      day-cycle y c.month_and_day-month.result.0 c.month_and_day-month.result.1 n (place_is n (few_of c)),
      c.years_of_days-years.ensures.sum,
      c.month_and_day-month.ensures.value,
      c.month_and_day-month.ensures.date.first_day,
    )

years_of : (c : goal.After-month_and_day-month) → IsCountedYear (year_at c.years_of_days-years.result.0)
years_of c =
    let n = c.years_of_days-years.result.0 in
    let all = counted c.args.day_number c.requires.first c.requires.last in
    let low : 1999 ≤ n = omega (arith, signed, all, cycle_days-rise (n + 1) 1999) in
    let high : n ≤ 21999 = omega (arith, signed, all, cycle_days-rise 22000 n) in
    let place = place_is n (few_of c) in
    record { first = omega (arith, signed); last = omega (arith, signed) }

parts_of : (c : goal.After-month_and_day-month) → (year_at c.years_of_days-years.result.0 ≡ year_of c.args.day_number) ×
    (c.month_and_day-month.result.0 ≡ month_of c.args.day_number) × (c.month_and_day-month.result.1 ≡ day_of c.args.day_number)
parts_of c =
    parts-of_day c.args.day_number (year_at c.years_of_days-years.result.0) c.month_and_day-month.result.0 c.month_and_day-month.result.1
    (returns-clause-number c) (years_of c) c.month_and_day-month.ensures.date

pub returns-clause-years : goal.returns-clause-years
returns-clause-years c = years_of c

pub returns-clause-year : goal.returns-clause-year
returns-clause-year c = (parts_of c).0

pub returns-clause-month : goal.returns-clause-month
returns-clause-month c = (parts_of c).1

pub returns-clause-day : goal.returns-clause-day
returns-clause-day c = (parts_of c).2

pub returns-clause-between : goal.returns-clause-between
returns-clause-between c = λ first last from to low high.
    let number = returns-clause-number c in
    let y = year_at c.years_of_days-years.result.0 in
    year-between y c.month_and_day-month.result.0 c.month_and_day-month.result.1 first last
    (years_of c) from to c.month_and_day-month.ensures.date (rw number low) (rw number high)
