use Rattle.zone_spans.proofs.CompiledLemmas.{times_sorted}
use Rattle.zone_spans.proofs.transitions.expand.Goals as goal

pub returns-in-Some-clause-times : goal.returns-in-Some-clause-times
returns-in-Some-clause-times c = c.collapse.ensures.times (times_sorted c.args.years c.args.lines.now c.in_ok-entries.entries
    c.in_ok-entries.ensures.sorted)
