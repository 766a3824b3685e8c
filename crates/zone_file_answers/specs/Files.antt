-- The zone that a file is.
use Rattle.std.specs.Prelude.{◌≡◌, ℕ, ℤ, List, Option}
use Rattle.civil_base.specs.{Instants.{seconds_of}, Ranges.{IsInYears}}
use Rattle.tz_lookup.specs.InForce.{all_in_force}
use Rattle.tz_tzif.specs.{FooterForce.{FooterZone}, Faults.{IsAcceptedFile}, InForce.{told_total_at}, Years.{HasDate}}
use Rattle.zone_tzif_core.specs.{Denotes.{Says}, Zones.{ZoneValue}}

-- a value that the file says, with what its footer says, can be looked up, has this total at each instant with a date, and reads each local
-- time of the years by it
pub record IsFile (file : List ℕ) (total : ℤ → ℤ) : Type 0 where
  pub value : ZoneValue
  pub footer : Option FooterZone
  pub says : Says file value
  pub accepted : IsAcceptedFile value footer
  pub is : (t : ℤ) → HasDate (seconds_of t) → total t ≡ told_total_at value footer t
  pub reads : (x : ℤ) → IsInYears x → all_in_force total x ≡ all_in_force (told_total_at value footer) x

-- a file of no such value
abbrev pub IsNoFile : List ℕ → Type 0
IsNoFile file = (total : ℤ → ℤ) → ¬ (IsFile file total)
