use Rattle.std.{proofs.Common.{map, nat_eq, sym, ◌∙◌}, specs.Prelude.{◌||◌}, specs.List.{starts_with}, proofs.lemmas.List.Folds.{list_any-append}}
use Rattle.tz_lookup.specs.Databases.{name_shown}
use Rattle.zone_tree.proofs.folder.is_front.Goals as goal

pub returns : goal.returns
returns c =
    (λ i. c.has_front-in_zones.ensures i || c.has_front-in_links.ensures i)
    ∙ sym (list_any-append (λ other. starts_with nat_eq other c.args.front.now) (map name_shown c.args.names.now.zones.now)
    (map name_shown c.args.names.now.links.now))
