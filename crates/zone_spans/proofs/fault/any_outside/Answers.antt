use Rattle.std.{proofs.Common.{◌≡◌, Bool, false, length, drop, sym, ◌∙◌, subst, arith}, specs.List.{list_any}}
use Rattle.zone_table.specs.declared.rule.RuleInfo.{RuleInfo}
use Rattle.zone_spans.{specs.Faults.{is_outside, some_year}, proofs.SoundLemmas.{any_here, any_behind, any_nowhere, none_at}}
use Rattle.zone_spans.proofs.fault.any_outside.Goals as goal

pub is_outside_in_some_year-requires-clause-tested : goal.is_outside_in_some_year-requires-clause-tested
is_outside_in_some_year-requires-clause-tested c =
    let test : RuleInfo → Bool = λ rule. some_year (is_outside rule) c.args.tested in
    subst (λ (rule : RuleInfo). test rule ≡ false) (sym c.rule-item.is)
    (none_at test c.args.rules.now c.requires.tested c.loop-rule.rule-index c.rule-item.result (omega arith))

pub returns-then-is_outside_in_some_year : goal.returns-then-is_outside_in_some_year
returns-then-is_outside_in_some_year c =
    let test : RuleInfo → Bool = λ rule. some_year (is_outside rule) c.args.count in
    any_here test c.args.rules.now c.loop-rule.rule-index c.rule-item.result (omega arith) c.rule-item.is c.loop-rule.invariant
    (sym c.is_outside_in_some_year.ensures ∙ c.if-is_outside_in_some_year.true)

pub loop-rule-preserved : goal.loop-rule-preserved
loop-rule-preserved c =
    let test : RuleInfo → Bool = λ rule. some_year (is_outside rule) c.args.count in
    any_behind test c.args.rules.now c.loop-rule.rule-index c.rule-item.result (omega arith) c.rule-item.is c.loop-rule.invariant
    (sym c.is_outside_in_some_year.ensures ∙ c.if-is_outside_in_some_year.false)

pub returns : goal.returns
returns c =
    let test : RuleInfo → Bool = λ rule. some_year (is_outside rule) c.args.count in
    let rules = c.args.rules.now in
    let end : c.loop-rule.rule-index ≡ length rules = omega arith in
    any_nowhere test rules (subst (λ n. list_any test (drop n rules) ≡ list_any test rules) end c.loop-rule.invariant)
