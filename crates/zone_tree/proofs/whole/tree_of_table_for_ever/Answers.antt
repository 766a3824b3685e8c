use Rattle.std.{proofs.Common.{map}, specs.Option.{option_copied}}
use Rattle.zone_tree.{specs.EverTold.{made_shown}, proofs.EverLemmas.{first_ever}}
use Rattle.zone_tree.proofs.whole.tree_of_table_for_ever.Goals as goal

pub returns-in-Ok-clause-ok : goal.returns-in-Ok-clause-ok
returns-in-Ok-clause-ok c = record { contents = map made_shown c.in_ok-files.files.made.items; are = c.in_ok-files.ensures; tree = c.in-Ok.ensures.ok }

pub returns-clause-err : goal.returns-clause-err
returns-clause-err c =
    first_ever (option_copied c.args.release) c.args.table.now (map made_shown c.in_ok-files.files.made.items) c.in-Err.fault c.in_ok-files.ensures c.in-Err.ensures.err
