use Rattle.std.proofs.Common.{sym, ap, ◌∙◌}
use Rattle.zone_spans.{specs.Lines.{Line}, proofs.RuleLemmas.{rules_are}}
use Rattle.zone_spans.proofs.fault.TestedServe.serves.Goals as goal

pub returns : goal.returns
returns c is_same = rules_are _ _ (sym c.eq.ensures ∙ is_same) ∙ ap (λ (l : Line). l.rules) c.line.view_is
