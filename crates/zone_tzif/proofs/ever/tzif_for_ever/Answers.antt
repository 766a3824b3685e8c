use Rattle.std.proofs.Common.{◌≡◌, Option, ℤ}
use Rattle.tz_ever.specs.{Ever.{ever_total}, ZoneShown.{zone_set_of}}
use Rattle.tz_tzif.specs.{FooterForce.{FooterZone}, Faults.{SaysInFooter}, InForce.{kind_at, told_total_at}}
use Rattle.zone_tzif_core.specs.{Denotes.{Denotes}, Zones.{ZoneValue}}
use Rattle.zone_tzif.{specs.Agreement.{ever_kind}, specs.EverFiles.{IsInReach}, proofs.EverLemmas.{told_by}}
use Rattle.zone_tzif.proofs.ever.tzif_for_ever.Goals as goal

pub returns-clause-kinds : goal.returns-clause-kinds
returns-clause-kinds c = told_by (λ file. file.items)
    (λ bytes. (zone : ZoneValue) (footer : Option FooterZone) (t : ℤ) → Denotes bytes zone → SaysInFooter zone.footer footer → IsInReach footer t
    → kind_at zone footer t ≡ ever_kind (zone_set_of c.args.set.now) t) _ _ c.due_file.result
    (λ bytes file zone footer t. c.ever_kinds.ensures (zone_set_of c.args.set.now) bytes zone footer t file) c.due_file.ensures

pub returns-clause-totals : goal.returns-clause-totals
returns-clause-totals c = told_by (λ file. file.items)
    (λ bytes. (zone : ZoneValue) (footer : Option FooterZone) (t : ℤ) → Denotes bytes zone → SaysInFooter zone.footer footer → IsInReach footer t
    → told_total_at zone footer t ≡ ever_total (zone_set_of c.args.set.now) t) _ _ c.due_file.result
    (λ bytes file zone footer t. c.ever_totals.ensures (zone_set_of c.args.set.now) bytes zone footer t file) c.due_file.ensures
