use Rattle.std.proofs.{Common.{refl, ◌≡◌, List, All, length, take, drop, reverse, [], sym, ◌∙◌, subst, arith}, lemmas.List.Elements.{All-take}}
use Rattle.zone_spans.{specs.Bounds.{IsSmallEntry}, specs.Collapse.{kept_of}, specs.Entries.{Entry}, proofs.BoundLemmas.{small_entries, bounded_entries}, proofs.StepLemmas.{kept_more_of, kept_all}}
use Rattle.zone_spans.proofs.span.keep_kept.Goals as goal

pub loop-i-init : goal.loop-i-init
loop-i-init c = record {
  len = refl;
  count = omega arith;
  bounded = small_entries c.args.rest.now c.requires;
  kept = refl;
}

pub loop-i-preserved : goal.loop-i-preserved
loop-i-preserved c =
    let step = c.step-kept.ensures.step in
    record {
      len = step.len ∙ c.loop-i.invariant.len;
      count = c.step-kept.ensures.count;
      bounded = c.step-kept.ensures.bounded;
      kept = kept_more_of c.loop-i.rest c.step-kept.new.rest c.loop-i.kept c.step-kept.result c.loop-i.i (omega arith) step
          ∙ c.loop-i.invariant.kept;
    }

pub returns-clause-kept : goal.returns-clause-kept
returns-clause-kept c =
    let xs = c.loop-i.rest in
    let end : c.loop-i.i ≡ length xs = omega arith in
    c.truncate.ensures
    ∙ kept_all xs c.loop-i.kept (kept_of [] c.args.rest.now)
    (subst (λ n. kept_of (reverse (take c.loop-i.kept xs)) (drop n xs) ≡ kept_of [] c.args.rest.now) end c.loop-i.invariant.kept)

pub returns-clause-bounded : goal.returns-clause-bounded
returns-clause-bounded c =
    bounded_entries c.truncate.new.self
    (subst (λ (es : List Entry). All IsSmallEntry es) (sym c.truncate.ensures)
    (All-take IsSmallEntry c.loop-i.kept c.loop-i.rest c.loop-i.invariant.bounded))
