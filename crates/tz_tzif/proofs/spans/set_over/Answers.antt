use Rattle.std.proofs.Common.{◌≡◌, ◌&&◌, List, map, option_map, ℤ, w64, to_z, of_z, to_z-of_z, sym, ap, ◌∙◌, subst}
use Rattle.std.specs.List.{list_all}
use Rattle.civil_base.specs.Ranges.{is_offset}
use Rattle.tz_lookup.specs.{Sets.{shift_of}, Spans.{Shift}}
use Rattle.zone_tzif_core.specs.ZoneFiles.{zone_seen}
use Rattle.tz_tzif.specs.{FooterShown.{footer_shown}, InForce.{kind_in}, Opened.{span_of}, Walks.{Tells}}
use Rattle.tz_tzif.proofs.spans.set_over.Goals as goal

pub returns-clause-set : goal.returns-clause-set
returns-clause-set c =
    let kind = kind_in (zone_seen c.args.zone.now) (option_map footer_shown c.args.footer.now) in
    let walked = c.in_ok-others.ensures in
    let others = c.in_ok-others.others in
    let from = to_z w64 (of_z w64 c.args.from) in
    let first = c.in_ok-first.ensures.span ∙ ap span_of c.held_in.ensures in
    record {
      accepted = record {
        range = ap (λ b. b && list_all (λ (s : Shift). is_offset s.1) (map shift_of others)) c.in_ok-first.ensures.range ∙ walked.shifts.range;
        times = walked.shifts.falls;
        bound = walked.shifts.bound;
      };
      tells = subst (λ s. Tells kind c.args.from c.args.end s others) (sym first)
          (subst (λ x. Tells kind x c.args.end (span_of (kind from)) others) (to_z-of_z c.ranges.from)
          (subst (λ x. Tells kind from x (span_of (kind from)) others) (to_z-of_z c.ranges.end) walked.tells));
    }
