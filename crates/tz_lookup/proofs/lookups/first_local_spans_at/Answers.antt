use Rattle.std.{proofs.Common.{◌≡◌, ℕ, ℤ, ◌+◌, ◌-◌, ◌<◌, [], ◌∷◌, ◌++◌, length, take, w64, to_z, of_z, arith, sym, ap, ◌∙◌, subst}, proofs.lemmas.Int.{to_z-of_z}, specs.declared.cmp.Ordering.TheVariants.{Equal}}
use Rattle.tz_lookup.{specs.{Sets.{schedule_of, order_of}, Scans.{spans_from, so_far}, declared.time_zone.OffsetResult.TheVariants.{Some, Ambiguous}}, proofs.{GivenLemmas.{each_at}, OrderLemmas.{if_false}, ScanLemmas.{step_takes, step_skips, first_two}, lookups.first_local_spans_at.Goals.{then-contains+in-None, else-contains}}}
use Rattle.tz_lookup.proofs.lookups.first_local_spans_at.Goals as goal

pub returns-in-Some-clause-exact : goal.returns-in-Some-clause-exact
returns-in-Some-clause-exact g c =
    let zone = schedule_of (g.T.SpanTable.seen c.args.set.now) in
    let s : ℤ = to_z w64 (of_z w64 c.args.second) in
    let same : s ≡ c.args.second = to_z-of_z w64 c.args.second c.ranges.second in
    let count : ℕ = length (g.T.SpanTable.seen c.args.set.now).others + 1 in
    let here = step_takes zone s count c.loop-i.i (omega (arith, c.span_count-i-end.ensures)) (c.contains.ensures.0 c.if-contains.true) in
    let so = ap (λ f. so_far f ++ spans_from zone s c.loop-i.i (count - c.loop-i.i)) (sym c.in-Some.is) ∙ c.loop-i.invariant.exact in
    subst (λ y. c.in-Some.before ∷ c.loop-i.i ∷ [] ≡ take 2 (spans_from zone y 0 count)) same
    (first_two c.in-Some.before c.loop-i.i _ _ _ here so)

pub loop-i-preserved : goal.loop-i-preserved
loop-i-preserved g c =
    let zone = schedule_of (g.T.SpanTable.seen c.args.set.now) in
    let s : ℤ = to_z w64 (of_z w64 c.args.second) in
    let i = c.loop-i.i in
    let count : ℕ = length (g.T.SpanTable.seen c.args.set.now).others + 1 in
    let inside : i < count = omega (arith, c.span_count-i-end.ensures) in
    record {
      within = λ x e. elim c.if-contains.branch [
        | then-contains+in-None w ↦ (let same : i ≡ x = cc (w.first-is, e) in omega arith)
        | else-contains w ↦ (let before = c.loop-i.invariant.within x (sym w.first-is ∙ e) in omega arith)
      ];
      lies = λ x e. elim c.if-contains.branch [
        | then-contains+in-None w ↦
            subst (λ k. order_of zone k s ≡ Equal) (let same : i ≡ x = cc (w.first-is, e) in same) (c.contains.ensures.0 w.if-contains.true)
        | else-contains w ↦ c.loop-i.invariant.lies x (sym w.first-is ∙ e)
      ];
      exact = elim c.if-contains.branch [
        | then-contains+in-None w ↦
            ap (λ f. so_far f ++ spans_from zone s (i + 1) (count - (i + 1))) w.first-is
            ∙ sym (step_takes zone s count i inside (c.contains.ensures.0 w.if-contains.true))
            ∙ ap (λ f. so_far f ++ spans_from zone s i (count - i)) (sym w.in-None.is) ∙ c.loop-i.invariant.exact
        | else-contains w ↦
            ap (λ f. so_far f ++ spans_from zone s (i + 1) (count - (i + 1))) w.first-is
            ∙ ap (λ l. so_far c.loop-i.first ++ l)
            (sym (step_skips zone s count i inside (if_false c.contains.result c.contains.ensures.1 w.if-contains.false)))
            ∙ c.loop-i.invariant.exact
      ];
    }

pub returns-in-Some-clause-lies : goal.returns-in-Some-clause-lies
returns-in-Some-clause-lies g c =
    each_at (g.T.SpanTable.seen c.args.set.now) (to_z-of_z w64 c.args.second c.ranges.second) (Ambiguous c.in-Some.before c.loop-i.i)
    (c.loop-i.invariant.lies c.in-Some.before c.in-Some.is, c.contains.ensures.0 c.if-contains.true)

pub returns-in-Some-first-clause-lies : goal.returns-in-Some-first-clause-lies
returns-in-Some-first-clause-lies g c =
    each_at (g.T.SpanTable.seen c.args.set.now) (to_z-of_z w64 c.args.second c.ranges.second) (Some c.in-Some-first.only)
    (c.loop-i.invariant.lies c.in-Some-first.only c.in-Some-first.is)
