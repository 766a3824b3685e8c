use Rattle.std.proofs.Common.{arith}
use Rattle.zone_spans.proofs.LineLemmas.{end_last}
use Rattle.zone_spans.proofs.transitions.end_at.Goals as goal

pub returns-else-index-infos : goal.returns-else-index-infos
returns-else-index-infos c = end_last c.args.infos.now c.args.index (omega arith) (omega arith)
