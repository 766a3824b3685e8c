use Rattle.std.proofs.Common.{◌∙◌, sym, ap, map}
use Rattle.zone_table.specs.Values.{line_value}
use Rattle.zone_plain.{specs.MadeNames.{made_name}, specs.Shown.{pair_shown}, proofs.PairLemmas.{number_with}, proofs.RuleLemmas.{known_rules, new_added}}
use Rattle.zone_plain.proofs.offsets.name_pair.Goals as goal

pub returns-then-not-is_new-clause-name : goal.returns-then-not-is_new-clause-name
returns-then-not-is_new-clause-name c =
    c.in_ok-name.ensures ∙ ap (made_name c.args.mark.now) (c.in_ok-number.ensures.number ∙ sym (number_with c.args.pairs.now (pair_shown c.args.pair)))

pub returns-then-not-is_new-clause-rules : goal.returns-then-not-is_new-clause-rules
returns-then-not-is_new-clause-rules c = known_rules (map line_value c.args.lines.now) c.args.mark.now c.args.pairs.now (pair_shown c.args.pair) c.args.made.now.items _ c.in_ok-number.ensures.added c.if-not-is_new.true

pub returns-clause-name : goal.returns-clause-name
returns-clause-name c =
    c.in_ok-name.ensures ∙ ap (made_name c.args.mark.now) (c.in_ok-number.ensures.number ∙ sym (number_with c.args.pairs.now (pair_shown c.args.pair)))

pub returns-clause-rules : goal.returns-clause-rules
returns-clause-rules c =
    new_added (map line_value c.args.lines.now) c.args.mark.now c.args.pairs.now (pair_shown c.args.pair) _ c.args.made.now.items _ _ _ c.in_ok-number.ensures.added c.if-not-is_new.false
    (c.as_str.ensures.value ∙ c.in_ok-name.ensures ∙ ap (made_name c.args.mark.now) (c.in_ok-number.ensures.number ∙ sym (number_with c.args.pairs.now (pair_shown c.args.pair))))
    c.in_ok-is_said.ensures
