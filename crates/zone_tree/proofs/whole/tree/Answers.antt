use Rattle.std.{proofs.Common.{ap, sym, ◌∙◌}, specs.Option.{option_copied}}
use Rattle.zone_tree.{specs.Names.{finds_in_table}, specs.Trees.{or_cause, tree_by}, proofs.TreeLemmas.{tree_is, first_told, source_told}}
use Rattle.zone_tree.proofs.whole.tree.Goals as goal

pub returns-in-Err-clause-err : goal.returns-in-Err-clause-err
returns-in-Err-clause-err c = source_told c.args.source.now c.in-Err.error c.in-Err.ensures.err

pub returns-clause-ok : goal.returns-clause-ok
returns-clause-ok c =
    tree_is c.in-Ok.table c.args.source.now c.in-Ok.ensures.ok c.in-Ok.ensures.table
    ∙ ap (λ release. or_cause (tree_by release (finds_in_table c.in-Ok.table))) (sym c.release_of.ensures) ∙ ap or_cause c.in-Ok-tree_of_table.ensures.ok

pub returns-in-Err-tree_of_table-clause-err : goal.returns-in-Err-tree_of_table-clause-err
returns-in-Err-tree_of_table-clause-err c =
    first_told (tree_by (option_copied c.release_of.result) (finds_in_table c.in-Ok.table)) _ _
    (tree_is c.in-Ok.table c.args.source.now c.in-Ok.ensures.ok c.in-Ok.ensures.table
    ∙ ap (λ release. or_cause (tree_by release (finds_in_table c.in-Ok.table))) (sym c.release_of.ensures))
    c.in-Err-tree_of_table.ensures.err
