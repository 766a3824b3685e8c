use Rattle.zone_tree.proofs.EverLemmas.{not_opened}
use Rattle.zone_tree.proofs.ever.file_of.Goals as goal

pub returns-in-Err-clause-err : goal.returns-in-Err-clause-err
returns-in-Err-clause-err c = not_opened c.args.table.now c.args.name.now c.in-Err.fault c.unopened.result c.in-Err.ensures.err c.unopened.ensures
