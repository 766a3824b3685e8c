use Rattle.std.proofs.{Common.{sym, ap, ◌∙◌, rules, to_z, w64, SFits, arith}, lemmas.Int.{to_z-of_z}}
use Rattle.zone_spans.{specs.Lines.{Line}, proofs.RuleLemmas.{rules_are}}
use Rattle.zone_spans.proofs.kept.KeptServe.serves.Goals as goal

pub returns : goal.returns
returns c is_same =
    let kept = c.args.self.now in
    let own : SFits w64 kept.offset = search rules in
    let its : SFits w64 c.line.inside.info.now.offset = search rules in
    record {
      offset = sym (to_z-of_z w64 kept.offset own) ∙ ap (to_z w64) c.if-self-line.false
          ∙ to_z-of_z w64 c.line.inside.info.now.offset its ∙ ap (λ (l : Line). l.info.offset) c.line.view_is;
      rules = rules_are _ _ (sym c.eq.ensures ∙ is_same) ∙ ap (λ (l : Line). l.rules) c.line.view_is;
      quiet = omega arith;
    }
