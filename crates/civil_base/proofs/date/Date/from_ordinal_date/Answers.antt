use Rattle.std.proofs.Common.{arith, ◌≡◌, ℕ, ◌-◌, ℤ, pos, ◌+ℤ◌, to_z, of_z, w32, to_z-of_z, ap, ◌∙◌}
use Rattle.basics.specs.{SignedLaws.{signed_casts}, Days.{day, days_in_year}, MonthLaws.{days_in_year-bounds}}
use Rattle.civil_base.{specs.Ordinals.{IsOrdinal, ordinal_day}, specs.Ranges.{IsYear}, proofs.OrdinalLemmas.{ordinal_day-inside, new_year-inside}}
use Rattle.civil_base.proofs.date.Date.from_ordinal_date.Goals as goal

-- the day number as the code computes it
computed : (y first : ℤ) (n : ℕ) (r : ℤ) → IsYear y → IsOrdinal y n → first ≡ day y 1 1 → r ≡ pos (n - 1)
    → to_z w32 (of_z w32 (to_z w32 (of_z w32 first) +ℤ to_z w32 (of_z w32 r))) ≡ ordinal_day y n
unfolding ordinal_day
computed y first n r year place begin rest =
    let inside = new_year-inside y year in
    omega (arith, signed_casts, days_in_year-bounds y)

parts_of : (c : goal.After-from) → IsYear c.args.year × IsOrdinal c.args.year c.args.ordinal
parts_of c =
    let same = c.year_length.ensures ∙ ap days_in_year (to_z-of_z c.ranges.year) in
    (record { first = omega (arith, signed_casts); last = omega (arith, signed_casts) }, record { first = omega arith; last = omega arith })

sum_of : (c : goal.After-from) → to_z w32 (of_z w32 (to_z w32 (of_z w32 c.day_number.result) +ℤ to_z w32
    (of_z w32 c.from.result))) ≡ ordinal_day c.args.year c.args.ordinal
sum_of c =
    let parts = parts_of c in
    computed c.args.year c.day_number.result c.args.ordinal c.from.result parts.0 parts.1
    (c.day_number.ensures.value ∙ ap (λ y. day y 1 1) (to_z-of_z c.ranges.year)) c.from.ensures

pub returns-clause-value : goal.returns-clause-value
returns-clause-value c = sum_of c

pub invariant_of-result : goal.invariant_of-result
invariant_of-result c =
    let parts = parts_of c in
    rw (sum_of c) (ordinal_day-inside c.args.year c.args.ordinal parts.0 parts.1)
