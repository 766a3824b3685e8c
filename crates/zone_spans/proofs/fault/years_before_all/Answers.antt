use Rattle.std.proofs.Common.{arith}
use Rattle.zone_spans.proofs.QuietLemmas.{one_rule_more}
use Rattle.zone_spans.proofs.fault.years_before_all.Goals as goal

pub loop-rule-preserved : goal.loop-rule-preserved
loop-rule-preserved c = record {
  before = one_rule_more c.args.rules.now c.loop-rule.rule-index c.rule-item.result c.loop-rule.count c.years_before-count.result
      (omega arith)
      c.rule-item.is c.loop-rule.invariant.before c.years_before-count.ensures.before
      (λ i l. omega (arith, l, c.years_before-count.ensures.most));
  most = omega arith;
}
