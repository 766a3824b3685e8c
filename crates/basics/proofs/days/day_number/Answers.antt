use Rattle.std.proofs.Common.{arith, ◌≡◌, ◌-◌, pos, neg_ℤ, ◌+ℤ◌, ◌≤ℤ◌, to_z-of_z, ap, ◌∙◌}
use Rattle.basics.specs.{Days.{day as date_day, days_through, days_into_year}, SignedLaws.{signed_casts}, DateLaws.{day-into_year, day-range, day-between}}
use Rattle.basics.proofs.days.day_number.Goals as goal

abbrev Sum : goal.After-from-2 → Type 0
Sum c = c.first_day_of.result +ℤ c.from-2.result ≡ date_day c.args.year c.args.month c.args.day

sum_is : (c : goal.After-from-2) → Sum c
unfolding days_into_year
sum_is c =
    let year = to_z-of_z c.ranges.year in
    let first = c.first_day_of.ensures.value ∙ ap (λ y. date_day y 1 1) year in
    let months = c.days_before_month.ensures.value ∙ ap (λ y. days_through y (c.args.month - 1)) year in
    omega (arith, signed_casts, day-into_year c.args.year c.args.month c.args.day c.requires.year, first, months)

range_is : (c : goal.After-from-2) → (neg_ℤ (pos 4371953) ≤ℤ date_day c.args.year c.args.month c.args.day) ×
    (date_day c.args.year c.args.month c.args.day ≤ℤ pos 2933262)
range_is c = day-range c.args.year c.args.month c.args.day c.requires.year (omega arith) (omega arith) (omega arith) (omega arith)

pub overflow_add-result : goal.overflow_add-result
overflow_add-result c = omega (arith, signed_casts, sum_is c, range_is c)

pub returns-clause-value : goal.returns-clause-value
returns-clause-value c = omega (arith, signed_casts, sum_is c, range_is c)

pub returns-clause-least : goal.returns-clause-least
returns-clause-least c = omega (arith, signed_casts, sum_is c, range_is c)

pub returns-clause-greatest : goal.returns-clause-greatest
returns-clause-greatest c = omega (arith, signed_casts, sum_is c, range_is c)

pub returns-clause-between : goal.returns-clause-between
returns-clause-between c = λ first last from to low high date.
    let inside = day-between c.args.year c.args.month c.args.day first last from to low high date in
    (omega (arith, signed_casts, sum_is c, range_is c, inside), omega (arith, signed_casts, sum_is c, range_is c, inside))
