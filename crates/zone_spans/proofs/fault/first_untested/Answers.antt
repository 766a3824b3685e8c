use Rattle.zone_spans.proofs.QuietLemmas.{quiet_days}
use Rattle.zone_spans.proofs.fault.first_untested.Goals as goal

pub returns-clause-tested : goal.returns-clause-tested
returns-clause-tested c = quiet_days c.args.rule.now c.years_before-quiet.result c.years_before-quiet.ensures.before
