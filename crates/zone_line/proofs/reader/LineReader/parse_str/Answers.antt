use Rattle.std.proofs.Common.{sym}
use Rattle.zone_line.proofs.BoundLemmas.{read-bounded}
use Rattle.zone_line.proofs.reader.LineReader.parse_str.Goals as goal

pub returns-in-Ok-clause-bounded : goal.returns-in-Ok-clause-bounded
returns-in-Ok-clause-bounded c = read-bounded c.args.input.now _ (sym c.in-Ok.ensures)
