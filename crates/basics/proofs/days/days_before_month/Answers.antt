use Rattle.std.proofs.{Common.{arith, ◌≡◌, ◌≤◌, ℕ, ◌-◌, ◌*◌, ℤ, to_z-of_z, inl, inr, ap}, lemmas.Bool.{cases_lt}}
use Rattle.basics.specs.{Days.{days_through, days_in_year}, MonthLaws.{days_through-two, days_through-late}}
use Rattle.basics.proofs.days.days_before_month.Goals as goal

early : (y : ℤ) (m : ℕ) → 1 ≤ m → m ≤ 2 → 31 * (m - 1) ≡ days_through y (m - 1)
early y m low high =
    elim (cases_lt m 2) [
      | inl one ↦ let place : m - 1 ≡ 0 = omega arith in rw place (omega (arith, days_through-two y))
      | inr two ↦ let place : m - 1 ≡ 1 = omega arith in rw place (omega (arith, days_through-two y))
    ]

pub returns-then-month-le2-clause-value : goal.returns-then-month-le2-clause-value
returns-then-month-le2-clause-value c =
    omega (arith, early c.args.year c.args.month (omega arith) (omega arith))

pub returns-else-month-le2-clause-value : goal.returns-else-month-le2-clause-value
returns-else-month-le2-clause-value c =
    omega (arith, days_through-late c.args.year c.args.month (omega arith) (omega arith), ap days_in_year (to_z-of_z c.ranges.year))
