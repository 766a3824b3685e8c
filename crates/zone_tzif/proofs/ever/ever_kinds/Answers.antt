use Rattle.std.proofs.Common.{◌∙◌, ap, subst}
use Rattle.tz_tzif.specs.{Faults.{SaysInFooter}, InForce.{kind_at}}
use Rattle.zone_tzif_core.specs.Zones.{ZoneValue}
use Rattle.zone_tzif.{specs.EverFiles.{ever_zone}, proofs.SavedLemmas.{shows_due}}
use Rattle.zone_tzif.proofs.ever.ever_kinds.Goals as goal

pub returns : goal.returns
returns c = λ set bytes zone footer t file read says reach.
    let value = ever_zone set file.footer in
    let is = c.one_reading.ensures bytes zone value read (c.each_denotes.ensures _ bytes value file.is) in
    ap (λ (z : ZoneValue). kind_at z footer t) is
    ∙ shows_due c.footers_repeat.ensures set file.version file.footer footer t (c.one_footer.ensures file.footer) file.due
    (subst (λ (z : ZoneValue). SaysInFooter z.footer footer) is says) reach
