use Rattle.std.proofs.Common.{sym, ◌∙◌}
use Rattle.zone_plain.{proofs.LeadLemmas.{none_met, known_more, noted}, specs.Stands.{names_of}}
use Rattle.zone_plain.proofs.links.keep.Goals as goal

pub returns-in-None : goal.returns-in-None
returns-in-None c values declared known leads =
    let so_far = c.loop-step.invariant.1 values declared known leads in
    known_more (names_of c.args.declared.now) values c.loop-step.known c.insert.new.self c.loop-step.at.now c.args.place c.in_ok-insert.ensures.ok
    so_far.0 so_far.1

pub loop-step-preserved : goal.loop-step-preserved
loop-step-preserved c =
    let none = none_met c.args.declared.now c.loop-step.known c.loop-step.at.now _ c.place_of.ensures (sym c.is_some.ensures ∙ c.if-is_some.false) in (
      c.as_str-at.utf8,
      λ values declared known leads.
          noted c.args.declared.now values c.loop-step.known c.insert.new.self c.loop-step.at.now c.as_str-at.result.now c.in-Some.target.now
          c.args.place none c.in-Some.ensures c.as_str-at.ensures c.in_ok-insert.ensures.ok declared
          (c.loop-step.invariant.1 values declared known leads),
    )
