use Rattle.std.proofs.Common.{◌≡◌, option_map, ℤ, FitsSigned, w64, to_z, of_z, to_z-of_z, rules, ◌∙◌, subst}
use Rattle.zone_tzif_core.specs.ZoneFiles.{zone_seen}
use Rattle.tz_tzif.{specs.{FooterShown.{footer_shown}, InForce.{kind_in}, Walks.{Tells, begin_of_set, end_of_set}}, proofs.OpenLemmas.{opens}}
use Rattle.tz_tzif.proofs.spans.spans_by.Goals as goal

pub returns : goal.returns
returns c =
    let value = zone_seen c.args.zone.now in
    let says = option_map footer_shown c.args.footer.now in
    let kind = kind_in value says in
    let recurrence = c.recurrence_of-recurrence.result in
    let set = c.in_ok-set.set in
    let over = c.in_ok-set.ensures.set in
    let fits : FitsSigned w64 c.ends_of-from.result.0 = search rules in
    let fits_end : FitsSigned w64 c.ends_of-from.result.1 = search rules in
    let from = to_z-of_z fits ∙ c.ends_of-from.ensures.from in
    let end = to_z-of_z fits_end ∙ c.ends_of-from.ensures.end in
    let tells = subst (λ x. Tells kind x (end_of_set recurrence) set.first set.others) from
    (subst (λ x. Tells kind (to_z w64 (of_z w64 c.ends_of-from.result.0)) x set.first set.others) end over.tells) in
    let opened = opens c.footers_repeat.ensures value says recurrence set c.recurrence_of-recurrence.ensures tells in
    record {
      says = says;
      file = c.requires;
      named = c.in_ok-set.ensures.name;
      accepted = over.accepted;
      repeats = opened.again;
      shows = opened.shows;
    }
