use Rattle.std.{proofs.Common.{◌≡◌, ◌++◌, map, ap, ◌∙◌}, specs.FinMap.{keys}, specs.Prelude.{filter, reverse}, proofs.lemmas.List.{map-append}}
use Rattle.basics.specs.{InOrder.{in_order}, Keyed.{text_cmp}}
use Rattle.tz_lookup.{specs.Databases.{names_of, name_shown, resolves}, proofs.DatabaseLemmas.{in_any_order}}
use Rattle.tz_lookup.proofs.database.names_in_order.Goals as goal

pub returns : goal.returns
unfolding names_of
returns c =
    let table = c.args.table.now in
    let zones = c.in_ok-all.all.items in
    let links = c.in_ok-links.links.items in
    let all : c.as_slice-2.result.now ≡ zones ++ links =
    c.as_slice-2.ensures.value ∙ c.in_ok-extend_from_slice.ensures.items ∙ ap (λ more. zones ++ more) c.as_slice.ensures.value in
    c.in_ok-names.ensures
    ∙ ap (λ names. in_order text_cmp (reverse (filter (resolves table) (map name_shown names)))) all
    ∙ ap (λ names. in_order text_cmp (reverse (filter (resolves table) names))) (map-append name_shown zones links)
    ∙ in_any_order (resolves table) (keys table.zonesets) (keys table.links) (map name_shown zones) (map name_shown links)
    c.in_ok-all.ensures c.in_ok-links.ensures
