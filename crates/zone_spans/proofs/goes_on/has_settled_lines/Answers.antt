use Rattle.std.{proofs.Common.{List, IsTrue, sym, ap, subst}, specs.List.{list_all}}
use Rattle.zone_table.specs.{Bounds.{is_bounded_rule}, declared.rule.RuleInfo.{RuleInfo}}
use Rattle.zone_spans.{specs.Lines.{Line}, proofs.SoundLemmas.{bounded_rules}}
use Rattle.zone_spans.proofs.goes_on.has_settled_lines.Goals as goal

pub some_leaves-requires-clause-bounded : goal.some_leaves-requires-clause-bounded
some_leaves-requires-clause-bounded c =
    subst (λ (rs : List RuleInfo). IsTrue (list_all is_bounded_rule rs)) (ap (λ (l : Line). l.rules) (sym c.last.view_is))
    (bounded_rules c.args.last.now c.requires.last.bounded)
