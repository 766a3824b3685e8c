use Rattle.std.proofs.Common.{subst, Ok, ◌≡◌}
use Rattle.zone_tree.{specs.EverTold.{IsFirstEver}, specs.EverTrees.{OfTree}, proofs.EverLemmas.{first_cause, source_cause, whole_tree}}
use Rattle.zone_tree.proofs.whole.tree_for_ever.Goals as goal

pub returns-in-Err-clause-err : goal.returns-in-Err-clause-err
returns-in-Err-clause-err c = source_cause c.args.source.now c.in-Err.error c.in-Err.ensures.err

pub returns-clause-ok : goal.returns-clause-ok
returns-clause-ok c =
    whole_tree c.args.source.now _ c.in-Ok.table c.in-Ok.ensures.ok c.in-Ok.ensures.table
    (subst (λ release. OfTree release c.in-Ok.table (λ tree. tree ≡ Ok c.in-Ok-tree_of_table_for_ever.bytes.items)) c.release_of.ensures c.in-Ok-tree_of_table_for_ever.ensures.ok)

pub returns-in-Err-tree_of_table_for_ever-clause-err : goal.returns-in-Err-tree_of_table_for_ever-clause-err
returns-in-Err-tree_of_table_for_ever-clause-err c =
    first_cause c.args.source.now c.in-Ok.table c.in-Err-tree_of_table_for_ever.fault c.in-Ok.ensures.ok c.in-Ok.ensures.table
    (subst (λ release. IsFirstEver release c.in-Ok.table c.in-Err-tree_of_table_for_ever.fault) c.release_of.ensures c.in-Err-tree_of_table_for_ever.ensures.err)
