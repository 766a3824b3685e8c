use Rattle.std.proofs.Common.{◌∙◌, ap, subst}
use Rattle.tz_tzif.specs.{Faults.{SaysInFooter}, InForce.{told_total_at}}
use Rattle.zone_tzif_core.specs.Zones.{ZoneValue}
use Rattle.zone_tzif.{specs.Files.{consistent_zone}, proofs.ConsistentLemmas.{consistent}}
use Rattle.zone_tzif.proofs.carried.consistent_totals.Goals as goal

pub returns : goal.returns
returns c = λ set bytes zone footer t carried written read says said.
    let is = c.one_reading.ensures bytes zone (consistent_zone set) read (c.written_denotes.ensures bytes (consistent_zone set) written) in
    ap (λ (z : ZoneValue). told_total_at z footer t) is
    ∙ consistent c.file_totals.ensures.alone c.totals_kept.ensures c.carried_on.ensures.totals set footer t carried
    (subst (λ (z : ZoneValue). SaysInFooter z.footer footer) is says) said
