use Rattle.std.proofs.Common.{◌≡◌, Bool, IfOk, sym, ap, ◌∙◌, subst}
use Rattle.zone_spans.{specs.GoesOn.{goes_on}, proofs.GoesOnLemmas.{goes_on-is, none_goes_on}}
use Rattle.zone_spans.proofs.goes_on.goes_on.Goals as goal

pub returns-in-Some : goal.returns-in-Some
returns-in-Some c =
    let is = ap goes_on c.in-Some.ensures.cases.0 ∙ goes_on-is c.in-Some.front.now c.in-Some.last.now in
    subst (λ (b : Bool). IfOk c.last_goes_on.result (λ goes. goes ≡ b)) (sym is) c.last_goes_on.ensures

pub returns-in-None : goal.returns-in-None
returns-in-None c = none_goes_on c.args.lines.now c.in-None.ensures.cases
