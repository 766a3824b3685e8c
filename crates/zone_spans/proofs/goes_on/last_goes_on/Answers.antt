use Rattle.std.proofs.Common.{All, List, sym, ◌∙◌, subst}
use Rattle.zone_spans.{specs.Bounds.{IsSoundOver}, specs.Lines.{Line}, proofs.GoesOnLemmas.{ready_of}}
use Rattle.zone_spans.proofs.goes_on.last_goes_on.Goals as goal

pub turns-requires-clause-sound : goal.turns-requires-clause-sound
turns-requires-clause-sound c =
    let lines = c.requires.lines in
    let ready = ready_of c.args.front.now c.args.last.now (subst (λ (ls : List Line). All (IsSoundOver 300) ls) lines c.requires.sound)
    (sym c.has_settled_lines.ensures ∙ c.if-not-has_settled_lines.false) in
    subst (λ (ls : List Line). All (IsSoundOver 700) ls) (sym lines) ready.lines

pub turns-requires-clause-begun : goal.turns-requires-clause-begun
turns-requires-clause-begun c =
    let ready = ready_of c.args.front.now c.args.last.now
    (subst (λ (ls : List Line). All (IsSoundOver 300) ls) c.requires.lines c.requires.sound)
    (sym c.has_settled_lines.ensures ∙ c.if-not-has_settled_lines.false) in
    ready.begun
