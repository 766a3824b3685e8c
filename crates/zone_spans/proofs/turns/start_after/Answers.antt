use Rattle.std.proofs.Common.{◌≡◌, IfOk, Option, None, ℤ, sym, ap, ◌∙◌, subst}
use Rattle.zone_spans.{specs.Later.{start_after}, proofs.GoesOnLemmas.{no_start, start_is}}
use Rattle.zone_spans.proofs.turns.start_after.Goals as goal

pub returns-in-Some : goal.returns-in-Some
returns-in-Some c =
    let line = c.in-Some.line.now in
    let is = ap (start_after None) c.in-Some.ensures.cases.0 ∙ start_is line c.in-Some.field-0-1.now None in
    subst (λ (s : Option ℤ). IfOk c.next_start_of.result (λ start. start ≡ s)) (sym is) c.next_start_of.ensures

pub returns-in-None : goal.returns-in-None
returns-in-None c = no_start c.args.front.now c.in-None.ensures.cases
