use Rattle.std.proofs.{Common.{◌-◌, ◌≤ℤ◌, w64, SFits, rules, sym, ◌∙◌, subst, arith}, lemmas.Int.{to_z-of_z}}
use Rattle.basics.specs.ComparisonLaws.{le_le}
use Rattle.tz_lookup.proofs.stretch.span_begin.Goals as goal

pub returns-else-span-eq0-clause-begun : goal.returns-else-span-eq0-clause-begun
returns-else-span-eq0-clause-begun g c =
    let fits : SFits w64 c.time.result = search rules in
    subst (λ t. t ≤ℤ c.args.second) (sym (to_z-of_z w64 _ fits ∙ c.time.ensures)) (c.requires.cut.before (c.args.span - 1) (omega (arith, c.if-span-eq0.false)))

pub returns-else-span-eq0-clause-before : goal.returns-else-span-eq0-clause-before
returns-else-span-eq0-clause-before g c = λ u low j l.
    let fits : SFits w64 c.time.result = search rules in
    le_le _ _ _ (c.requires.accepted.times j (c.args.span - 1) (omega (arith, l)) (omega (arith, l, c.requires.cut.within)))
    (subst (λ t. t ≤ℤ u) (to_z-of_z w64 _ fits ∙ c.time.ensures) low)
