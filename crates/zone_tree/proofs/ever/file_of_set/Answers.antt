use Rattle.std.proofs.Common.{ap, sym, refl, ◌∙◌}
use Rattle.tz_ever.specs.ZoneShown.{zone_set_of}
use Rattle.zone_tree.{specs.Contents.{is_marked}, specs.EverTrees.{marked}, proofs.EverLemmas.{not_written}}
use Rattle.zone_tree.proofs.ever.file_of_set.Goals as goal

pub returns-then-is_marked-clause-err : goal.returns-then-is_marked-clause-err
returns-then-is_marked-clause-err c =
    marked (zone_set_of c.args.set.now) c.requires (sym (c.if-is_marked.ensures ∙ ap is_marked c.compact.ensures.seen)) refl

pub returns-in-Err-clause-err : goal.returns-in-Err-clause-err
returns-in-Err-clause-err c =
    not_written c.args.table.now c.args.name.now (zone_set_of c.args.set.now) c.in-Err.fault c.unwritten.result c.requires
    (sym (c.if-is_marked.ensures ∙ ap is_marked c.compact.ensures.seen)) c.in-Err.ensures.told c.unwritten.ensures
