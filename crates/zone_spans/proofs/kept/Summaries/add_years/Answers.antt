use Rattle.std.proofs.Common.{◌+◌, arith}
use Rattle.zone_spans.proofs.TestedLemmas.{fewer_sound}
use Rattle.zone_spans.proofs.kept.Summaries.add_years.Goals as goal

pub add_year-requires-clause-line : goal.add_year-requires-clause-line
add_year-requires-clause-line c = fewer_sound c.args.line.now (c.loop-count.count + 1) c.args.years (omega arith) c.requires.line
