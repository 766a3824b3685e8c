use Rattle.std.{proofs.Common.{◌≡◌, ◌+◌, ◌∙◌, map, drop, to_z, of_z, to_z-of_z, w64, ap, subst, arith}, specs.Prelude.{None, Some, filter, int_lt}}
use Rattle.sefunjaro.{specs.Changes.{change_of, next_after, settled_changes}, proofs.ChangeLemmas.{later_from, left_after, next_found, none_next}}
use Rattle.sefunjaro.proofs.changes.next_change.Goals as goal

pub loop-place-init : goal.loop-place-init
loop-place-init g c =
    let set = g.S.SpanTable.seen c.args.set.now in let first = c.span_in_force_at-place.result in let second = to_z w64 (of_z w64 c.args.second) in record {
      later = later_from set.others first second c.span_in_force_at-place.ensures;
      left = left_after set set.others first second c.span_in_force_at-place.ensures;
    }

pub returns-in-Some : goal.returns-in-Some
returns-in-Some g c =
    let set = g.S.SpanTable.seen c.args.set.now in let place = c.loop-place.place in let invariant = c.loop-place.invariant in
    let same : to_z w64 (of_z w64 c.args.second) ≡ c.args.second = to_z-of_z c.ranges.second in
    subst (λ s. Some c.in-Some.change ≡ next_after set s) same
    (next_found set (to_z w64 (of_z w64 c.args.second)) place c.in-Some.change (settled_changes (drop (place + 1) (map (change_of set) set.others)))
    invariant.left c.in-Some.ensures.0 c.in-Some.ensures.1
    (invariant.later place (omega arith) (omega (arith, c.loop-place-test.true, c.entry_count-place-end.ensures.count))))

pub loop-place-preserved : goal.loop-place-preserved
loop-place-preserved g c =
    let invariant = c.loop-place.invariant in record {
      later = λ j l m. invariant.later j (omega (arith, l)) m;
      left = invariant.left ∙ ap (filter (λ change. int_lt (to_z w64 (of_z w64 c.args.second)) change.second)) c.in-None.ensures;
    }

pub returns : goal.returns
returns g c =
    let set = g.S.SpanTable.seen c.args.set.now in
    let same : to_z w64 (of_z w64 c.args.second) ≡ c.args.second = to_z-of_z c.ranges.second in
    subst (λ s. None ≡ next_after set s) same
    (none_next set (to_z w64 (of_z w64 c.args.second)) c.loop-place.place c.loop-place.invariant.left
    (omega (arith, c.loop-place-test.false, c.entry_count-place-end.ensures.count)))
