use Rattle.std.{proofs.Common.{map, sym, ap, ◌∙◌, subst}, specs.List.{list_all}}
use Rattle.basics.specs.{InOrderLaws.{RisesStrictly}, Keyed.{text_cmp}}
use Rattle.tz_lookup.{specs.Databases.{found_as, found_in, names_of, resolves}, specs.declared.database.Known.{Known}, proofs.DatabaseLemmas.{map-twice, names_found, names_resolve}, proofs.DatabaseLaws.{names_rise}}
use Rattle.tz_lookup.proofs.database.Database.build.Goals as goal

pub know_all-requires-clause-found : goal.know_all-requires-clause-found
know_all-requires-clause-found c = ap (list_all (resolves c.args.table.now)) c.in_ok-names.ensures ∙ names_resolve c.args.table.now

pub invariant_of-result : goal.invariant_of-result
invariant_of-result c =
    let table = c.args.table.now in
    let found = map-twice (λ (known : Known). known.set) found_as c.in_ok-zones.zones ∙ c.in_ok-zones.ensures.ok ∙ ap (map (found_in table)) c.in_ok-names.ensures in (
      subst (RisesStrictly text_cmp)
          (sym (names_found table (map (λ (known : Known). known.set) c.in_ok-zones.zones) (names_of table) found)) (names_rise table),
      tt,
    )

pub returns-clause-ok : goal.returns-clause-ok
returns-clause-ok c =
    map-twice (λ (known : Known). known.set) found_as c.in_ok-zones.zones ∙ c.in_ok-zones.ensures.ok ∙ ap (map (found_in c.args.table.now)) c.in_ok-names.ensures
