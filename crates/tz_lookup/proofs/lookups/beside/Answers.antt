use Rattle.std.{proofs.Common.{◌≡◌, ℕ, suc, ℤ, ◌+◌, ◌-◌, ◌<◌, length, [], ◌∷◌, w64, to_z, of_z, arith, sym, ◌∙◌, subst}, specs.declared.cmp.Ordering.TheVariants.{Equal}, proofs.lemmas.Int.{to_z-of_z}}
use Rattle.tz_lookup.{proofs.{SetLemmas.{count_same}, OrderLemmas.{two_lie, one_lies, if_false}, lookups.beside.Goals.{else-found-gt0-via-then-found-gt0+else-contains, else-found-gt0-via-else-found-gt0, else-found-entry_count-via-then-found-entry_count+else-contains-2, else-found-entry_count-via-else-found-entry_count}}, specs.{Sets.{schedule_of, total_of_span, order_of}, InForce.{totals_at}}}
use Rattle.tz_lookup.proofs.lookups.beside.Goals as goal
use Rattle.zone_spans.specs.Schedules.{total_at}

pub returns-then-contains-clause-exact : goal.returns-then-contains-clause-exact
returns-then-contains-clause-exact g c = λ x at.
    let zone = schedule_of (g.T.SpanTable.seen c.args.set.now) in
    let s : ℤ = to_z w64 (of_z w64 c.args.second) in
    let same : s ≡ c.args.second = to_z-of_z w64 c.args.second c.ranges.second in
    let count = count_same (g.T.SpanTable.seen c.args.set.now) in
    let k : ℕ = c.args.found - 1 in
    let next : suc k ≡ c.args.found = omega arith in
    subst (λ n. total_of_span (g.T.SpanTable.seen c.args.set.now) k ∷ total_of_span (g.T.SpanTable.seen c.args.set.now) n ∷ [] ≡ totals_at (total_at zone) x) next
    (two_lie zone x s (at ∙ sym same) c.requires.accepted c.requires.orderly k (omega (arith, count, c.requires.within))
    (c.contains.ensures.0 c.if-contains.true)
    (subst (λ n. order_of zone n s ≡ Equal) (sym next)
    (subst (λ y. order_of zone c.args.found y ≡ Equal) (sym same) c.requires.contains)))

pub returns-then-contains-2-clause-exact : goal.returns-then-contains-2-clause-exact
returns-then-contains-2-clause-exact g c = λ x at.
    let zone = schedule_of (g.T.SpanTable.seen c.args.set.now) in
    let s : ℤ = to_z w64 (of_z w64 c.args.second) in
    let same : s ≡ c.args.second = to_z-of_z w64 c.args.second c.ranges.second in
    let count = count_same (g.T.SpanTable.seen c.args.set.now) in
    let next : suc c.args.found ≡ c.args.found + 1 = omega arith in
    subst (λ n. total_of_span (g.T.SpanTable.seen c.args.set.now) c.args.found ∷ total_of_span (g.T.SpanTable.seen c.args.set.now) n ∷ [] ≡ totals_at (total_at zone) x) next
    (two_lie zone x s (at ∙ sym same) c.requires.accepted c.requires.orderly c.args.found
    (omega (arith, count, c.if-found-entry_count.true, c.entry_count.ensures))
    (subst (λ y. order_of zone c.args.found y ≡ Equal) (sym same) c.requires.contains)
    (subst (λ n. order_of zone n s ≡ Equal) (sym next) (c.contains-then-found-entry_count.ensures.0 c.if-contains-2.true)))

pub returns-else-found-entry_count-clause-exact : goal.returns-else-found-entry_count-clause-exact
returns-else-found-entry_count-clause-exact g c = λ x at.
    let zone = schedule_of (g.T.SpanTable.seen c.args.set.now) in
    let s : ℤ = to_z w64 (of_z w64 c.args.second) in
    let same : s ≡ c.args.second = to_z-of_z w64 c.args.second c.ranges.second in
    let count = count_same (g.T.SpanTable.seen c.args.set.now) in
    let no_before : (j : ℕ) → suc j ≡ c.args.found → order_of zone j s ≡ Equal → ⊥ = λ j is e.
    elim c.else-found-gt0.branch [
      | else-found-gt0-via-then-found-gt0+else-contains w ↦ if_false w.contains.result w.contains.ensures.1 w.if-contains.false
          (let before : j ≡ c.args.found - 1 = omega arith in subst (λ n. order_of zone n s ≡ Equal) before e)
      | else-found-gt0-via-else-found-gt0 w ↦ absurd (omega (arith, w.if-found-gt0.false))
    ] in
    let no_after : c.args.found < length zone.shifts → order_of zone (suc c.args.found) s ≡ Equal → ⊥ = λ l e.
    elim c.else-found-entry_count.branch [
      | else-found-entry_count-via-then-found-entry_count+else-contains-2 w ↦ if_false w.contains-then-found-entry_count.result
          w.contains-then-found-entry_count.ensures.1 w.if-contains-2.false
          (let after : suc c.args.found ≡ c.args.found + 1 = omega arith in subst (λ n. order_of zone n s ≡ Equal) after e)
      | else-found-entry_count-via-else-found-entry_count w ↦ absurd
          (omega (arith, l, count, w.if-found-entry_count.false, c.entry_count.ensures))
    ] in
    one_lies zone x s (at ∙ sym same) c.requires.accepted c.requires.orderly c.args.found (omega (arith, count, c.requires.within))
    (subst (λ y. order_of zone c.args.found y ≡ Equal) (sym same) c.requires.contains) no_before no_after
