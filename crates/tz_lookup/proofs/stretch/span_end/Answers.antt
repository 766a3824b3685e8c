use Rattle.std.proofs.{Common.{◌<ℤ◌, w64, SFits, rules, ◌∙◌, sym, subst, arith}, lemmas.Int.{to_z-of_z}, lemmas.List.{length-map}}
use Rattle.basics.specs.ComparisonLaws.{lt_le}
use Rattle.tz_lookup.specs.Sets.{shift_of}
use Rattle.tz_lookup.proofs.stretch.span_end.Goals as goal

pub returns-then-span-entry_count-clause-lasts : goal.returns-then-span-entry_count-clause-lasts
returns-then-span-entry_count-clause-lasts g c = λ early.
    let fits : SFits w64 c.time.result = search rules in
    subst (λ t. c.args.second <ℤ t) (sym (to_z-of_z w64 _ fits ∙ c.time.ensures)) (c.requires.cut.after c.args.span (omega arith)
    (omega (arith, c.if-span-entry_count.true, c.entry_count.ensures.count, length-map (g.S.SpanTable.seen c.args.set.now).others shift_of)))

pub returns-then-span-entry_count-clause-after : goal.returns-then-span-entry_count-clause-after
returns-then-span-entry_count-clause-after g c = λ u high j l m.
    let fits : SFits w64 c.time.result = search rules in
    lt_le _ _ _ (subst (λ t. u <ℤ t) (to_z-of_z w64 _ fits ∙ c.time.ensures) high) (c.requires.accepted.times c.args.span j l m)
