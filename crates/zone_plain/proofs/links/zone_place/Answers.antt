use Rattle.std.proofs.Common.{sym, ◌∙◌, ◌≤◌, length, arith}
use Rattle.zone_plain.proofs.LeadLemmas.{none_met, met_here, met_last, ended, stepped}
use Rattle.zone_plain.proofs.links.zone_place.Goals as goal

pub returns-then-is_some : goal.returns-then-is_some
returns-then-is_some c values declared known few =
    met_here c.args.declared.now values c.args.known.now c.args.name.now c.loop-step.at.now c.loop-step.step _ c.place_of-place.ensures
    (sym c.is_some.ensures ∙ c.if-is_some.true) (c.loop-step.invariant.1 values declared) declared known

pub returns-in-None : goal.returns-in-None
returns-in-None c values declared known few =
    let none = none_met c.args.declared.now c.args.known.now c.loop-step.at.now _ c.place_of-place.ensures (sym c.is_some.ensures ∙ c.if-is_some.false) in
    ended c.args.declared.now values c.args.known.now c.args.name.now c.loop-step.at.now c.loop-step.step none c.in-None.ensures
    (c.loop-step.invariant.1 values declared) declared

pub loop-step-preserved : goal.loop-step-preserved
loop-step-preserved c =
    let none = none_met c.args.declared.now c.args.known.now c.loop-step.at.now _ c.place_of-place.ensures (sym c.is_some.ensures ∙ c.if-is_some.false) in (
      c.as_str-at.utf8,
      λ values declared.
          stepped c.args.declared.now values c.args.known.now c.args.name.now c.loop-step.at.now c.as_str-at.result.now c.in-Some.target.now
          c.loop-step.step none c.in-Some.ensures c.as_str-at.ensures (c.loop-step.invariant.1 values declared) declared,
    )

pub returns : goal.returns
returns c values declared known few =
    let far : length values ≤ c.loop-step.step = omega (arith, few, c.loop-step-test.false) in
    met_last c.args.declared.now values c.args.known.now c.args.name.now c.loop-step.at.now c.loop-step.step _ c.place_of.ensures far
    (c.loop-step.invariant.1 values declared) declared known
