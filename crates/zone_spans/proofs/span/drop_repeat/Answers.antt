use Rattle.std.proofs.{Common.{◌≡◌, ◌<◌, length, sym, ◌∙◌, arith}, lemmas.Bool.Decides.{nat_tests}}
use Rattle.zone_spans.proofs.{PutLemmas.{first_goes, first_stays, none_goes}, span.drop_repeat.Goals.{else-not-is_empty-via-then-not-is_empty+else-is_same_span, else-not-is_empty-via-else-not-is_empty}}
use Rattle.zone_spans.proofs.span.drop_repeat.Goals as goal

pub returns-then-is_same_span-clause-dropped : goal.returns-then-is_same_span-clause-dropped
returns-then-is_same_span-clause-dropped c =
    let some : 0 < length c.args.rest.now = grind (arith, nat_tests) in
    c.remove.ensures.after
    ∙ first_goes c.args.first.now c.args.rest.now c.index.result.now some c.index.ensures
    (sym c.is_same_span.ensures ∙ c.if-is_same_span.true)

pub returns-else-not-is_empty-clause-dropped : goal.returns-else-not-is_empty-clause-dropped
returns-else-not-is_empty-clause-dropped c =
    elim c.else-not-is_empty.branch [
      | else-not-is_empty-via-then-not-is_empty+else-is_same_span w ↦
          let some : 0 < length c.args.rest.now = grind (arith, nat_tests) in
          first_stays c.args.first.now c.args.rest.now w.index.result.now some w.index.ensures
          (sym w.is_same_span.ensures ∙ w.if-is_same_span.false)
      | else-not-is_empty-via-else-not-is_empty w ↦
          let none : length c.args.rest.now ≡ 0 = grind (arith, nat_tests) in
          none_goes c.args.first.now c.args.rest.now none
    ]
