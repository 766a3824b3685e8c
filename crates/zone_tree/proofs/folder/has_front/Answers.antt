use Rattle.std.proofs.{Common.{rules, of_calls, ◌∙◌}, lemmas.Fn.{always_returns_same}}
use Rattle.tz_lookup.specs.Databases.{name_shown}
use Rattle.zone_tree.proofs.FolderLemmas.{first_decides, parted, is_below}
use Rattle.zone_tree.proofs.folder.has_front.Goals as goal

pub returns : goal.returns
returns c =
    let cut = c.partition_point-from.ensures.partitioned (λ name. is_below c.args.front.now (name_shown name))
    (always_returns_same _ _ _ (λ a r f k. search (rules, of_calls)))
    (λ i j d l m up. parted name_shown c.args.front.now c.args.names.now c.requires i j d l m up) in
    c.begins_at.ensures ∙ first_decides name_shown c.args.front.now c.args.names.now c.partition_point-from.result c.requires cut
