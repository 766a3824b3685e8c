use Rattle.std.proofs.{Common.{◌≡◌, ℤ, pos, neg_ℤ, ◌+ℤ◌, ◌-ℤ◌, FitsSigned, w32, to_z, of_z, to_z-of_z, rules, sym, ap, ◌∙◌, subst, arith}, lemmas.Int.{ints}}
use Rattle.basics.specs.ComparisonLaws.{lt_from_pass}
use Rattle.zone_spans.specs.Cycle.{next_cycle}
use Rattle.tz_tzif.{specs.Places.{StandsForYear}, proofs.CycleLemmas.{for_earlier, for_later}}
use Rattle.tz_tzif.proofs.rule.asked_for.Goals as goal

pub returns-then-year-lt-FIRST_YEAR-clause-stands : goal.returns-then-year-lt-FIRST_YEAR-clause-stands
returns-then-year-lt-FIRST_YEAR-clause-stands c =
    let fits : FitsSigned w32 (to_z w32 (of_z w32 c.args.year) +ℤ pos 400) = search rules in
    let is : to_z w32 (of_z w32 (to_z w32 (of_z w32 c.args.year) +ℤ pos 400)) ≡ next_cycle c.args.year = to_z-of_z fits ∙ ap next_cycle (to_z-of_z c.ranges.year) in
    subst (λ y. StandsForYear c.args.year y (pos 12622780800)) (sym is)
    (for_earlier c.days_repeat.ensures c.weekdays_repeat.ensures c.months_repeat.ensures c.args.year c.requires)

pub returns-then-year-gt-LAST_YEAR-clause-stands : goal.returns-then-year-gt-LAST_YEAR-clause-stands
returns-then-year-gt-LAST_YEAR-clause-stands c =
    let year = to_z-of_z c.ranges.year in
    let fits : FitsSigned w32 (to_z w32 (of_z w32 c.args.year) -ℤ pos 400) = search rules in
    let is : to_z w32 (of_z w32 (to_z w32 (of_z w32 c.args.year) -ℤ pos 400)) ≡ c.args.year -ℤ pos 400 = to_z-of_z fits ∙ ap (λ y. y -ℤ pos 400) year in
    let late = lt_from_pass (pos 9999) (to_z w32 (of_z w32 c.args.year)) c.if-year-gt-LAST_YEAR.true in
    subst (λ y. StandsForYear c.args.year y (neg_ℤ (pos 12622780800))) (sym is)
    (for_later c.days_repeat.ensures c.weekdays_repeat.ensures c.months_repeat.ensures c.args.year (omega (arith, ints, late, year)))
