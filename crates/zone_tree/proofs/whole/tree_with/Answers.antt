use Rattle.std.{proofs.Common.{map, ap, ◌∙◌}, specs.Option.{option_copied}}
use Rattle.tz_lookup.specs.Databases.{name_shown}
use Rattle.zone_tree.{specs.Names.{finds_by_table}, proofs.TreeLemmas.{tree_put, first_kept, front_kept}}
use Rattle.zone_tree.proofs.whole.tree_with.Goals as goal

pub returns-clause-ok : goal.returns-clause-ok
returns-clause-ok g c =
    tree_put (option_copied c.args.release) (finds_by_table c.args.table.now (g.F.ZoneFiles.content c.args.files.now)) _ _ _ _ _
    (ap (map name_shown) c.as_slice-3.ensures.value ∙ c.in_ok-ordered.ensures)
    c.in-Ok.ensures.ok c.in-Ok-put_names.ensures.ok c.new-bytes.ensures.items c.in_ok-put_end.ensures

pub returns-in-Err-clause-err : goal.returns-in-Err-clause-err
returns-in-Err-clause-err g c =
    front_kept (option_copied c.args.release) (finds_by_table c.args.table.now (g.F.ZoneFiles.content c.args.files.now)) _ c.in-Err.ensures.err

pub returns-in-Err-put_names-clause-err : goal.returns-in-Err-put_names-clause-err
returns-in-Err-put_names-clause-err g c =
    first_kept (option_copied c.args.release) (finds_by_table c.args.table.now (g.F.ZoneFiles.content c.args.files.now)) _ _ _ _
    (ap (map name_shown) c.as_slice-3.ensures.value ∙ c.in_ok-ordered.ensures) c.in-Ok.ensures.ok c.in-Err-put_names.ensures.err
