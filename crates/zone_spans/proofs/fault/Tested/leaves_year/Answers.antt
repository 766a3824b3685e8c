use Rattle.std.proofs.Common.{sym}
use Rattle.zone_spans.proofs.TestedLemmas.{fewer_leave}
use Rattle.zone_spans.proofs.fault.Tested.leaves_year.Goals as goal

pub returns-then-years-self-clause-value : goal.returns-then-years-self-clause-value
returns-then-years-self-clause-value c =
    let tested = c.args.self.now in
    sym (fewer_leave tested.rules.now c.args.years tested.years c.if-years-self.true c.requires.tested)
