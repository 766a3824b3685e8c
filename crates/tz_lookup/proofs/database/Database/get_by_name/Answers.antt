use Rattle.std.proofs.{Common.{rules, ◌≡◌, ◌<◌, List, ℕ, Some, length, map, get_or, sym, ap, ◌∙◌, subst}, lemmas.Cmp.{nat_list_cmp_total}, lemmas.Fn.{always_returns_same}, lemmas.List.Sorted.{searchable_from_sorted}}
use Rattle.std.specs.{Prelude.{option_map}, declared.cmp.Ordering.{Ordering}, declared.cmp.Ordering.TheVariants.{Equal}, List.{find}, Str.{bytes_eq}}
use Rattle.basics.specs.{InOrderLaws.{RisesStrictly}, Keyed.{text_cmp}}
use Rattle.tz_lookup.{specs.{declared.database.Known.{Known}, declared.set.FixedTimespanSet.{FixedTimespanSet}}, proofs.DatabaseLemmas.{find-map, found_at, map-twice, names_sorted, none_beside}}
use Rattle.tz_lookup.proofs.database.Database.get_by_name.Goals as goal

abbrev set_in : Known → FixedTimespanSet
set_in known = known.set

abbrev key : Known → List ℕ
key known = known.set.name

rising : (zones : List Known) → RisesStrictly text_cmp (map (λ (set : FixedTimespanSet). set.name) (map set_in zones))
    → RisesStrictly text_cmp (map key zones)
rising zones = subst (RisesStrictly text_cmp) (map-twice set_in (λ (set : FixedTimespanSet). set.name) zones)

-- what is found among the zones is found among their sets
among_sets : (name : List ℕ) (zones : List Known)
    → find (λ (set : FixedTimespanSet). bytes_eq name set.name) (map set_in zones)
    ≡ option_map set_in (find (λ known. bytes_eq name (key known)) zones)
among_sets name zones = find-map set_in (λ (set : FixedTimespanSet). bytes_eq name set.name) zones

pub returns-in-Ok : goal.returns-in-Ok
returns-in-Ok c =
    let zones = c.self.inside.zones in
    let name = c.args.name.now in
    let known = c.index-as_slice-index.result in
    let order : Known → Ordering = λ k. text_cmp (key k) name in
    let there : get_or zones c.in-Ok.index known ≡ known =
    sym (c.index-as_slice-index.is ∙ ap (λ l. get_or l c.in-Ok.index known) c.as_slice-in-Ok.ensures) in
    let equal : order (get_or zones c.in-Ok.index known) ≡ Equal =
    subst (λ l. order (get_or l c.in-Ok.index known) ≡ Equal) c.as_slice.ensures
    (c.in-Ok.ensures.position order (always_returns_same _ _ _ (λ a r g h. (search rules, search rules))) known) in
    let inside : c.in-Ok.index < length zones = subst (λ l. c.in-Ok.index < length l) c.as_slice.ensures c.in-Ok.ensures.bound in
    ap Some (c.zone.ensures ∙ ap set_in (sym there))
    ∙ ap (option_map set_in) (sym (found_at key name zones c.in-Ok.index known (rising zones c.self.inside.sorted) inside equal))
    ∙ sym (among_sets name zones) ∙ ap (find (λ (set : FixedTimespanSet). bytes_eq name set.name)) c.self.view_is

pub returns-in-Err : goal.returns-in-Err
returns-in-Err c =
    let zones = c.self.inside.zones in
    let name = c.args.name.now in
    let list = c.as_slice.result.now in
    let order : Known → Ordering = λ k. text_cmp (key k) name in
    let up : RisesStrictly text_cmp (map key list) =
    subst (λ l. RisesStrictly text_cmp (map key l)) (sym c.as_slice.ensures) (rising zones c.self.inside.sorted) in
    let parted = c.in-Err.ensures.position order (always_returns_same _ _ _ (λ a r g h. (search rules, search rules)))
    (searchable_from_sorted nat_list_cmp_total key list name (names_sorted key list up)) in
    ap (option_map set_in) (sym (none_beside key name list c.in-Err.field-0 parted))
    ∙ ap (λ l. option_map set_in (find (λ k. bytes_eq name (key k)) l)) c.as_slice.ensures
    ∙ sym (among_sets name zones) ∙ ap (find (λ (set : FixedTimespanSet). bytes_eq name set.name)) c.self.view_is
