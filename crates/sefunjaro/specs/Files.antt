-- What a zone of a compiled file, or of a POSIX string, shows.
use Rattle.std.specs.Prelude.{◌≡◌, ℕ, ℤ, List, [], Option}
use Rattle.civil_base.specs.{Instants.{seconds_of}, Ranges.{IsInYears}}
use Rattle.tz_lookup.specs.InForce.{all_in_force}
use Rattle.tz_tzif.specs.{FooterForce.{FooterZone}, Ranges.{IsFooterOf}, Values.{FooterValue}, Faults.{IsAcceptedFile, IsNoFooter}, InForce.{kind_at, told_total_at}, Opened.{span_of}, Years.{HasDate}}
use Rattle.zone_tzif_core.specs.{Denotes.{Says}, Zones.{ZoneValue}}
use Rattle.sefunjaro.specs.{Posix.{standard_kind}, Zones.{origin_in, span_in, total_in}, declared.file.FileFault.{FileFault}, declared.file.FileFault.TheVariants.{Refused, Footer, NoMemory}, declared.zone.OpenZone.{OpenZone}, declared.zone.Origin.TheVariants.{File}}

-- By what the value's footer says from its last change on, the zone has at each instant with a date the value's total, and its abbreviation
-- and flag, for which an hour of saving stands; and it reads each local time of the years as the value does.
pub record ShowsFile (value : ZoneValue) (zone : OpenZone) : Type 0 where
  pub footer : Option FooterZone
  pub accepted : IsAcceptedFile value footer
  pub origin : origin_in zone ≡ File
  pub total : (t : ℤ) → HasDate (seconds_of t) → total_in zone t ≡ told_total_at value footer t
  pub span : (t : ℤ) → HasDate (seconds_of t) → span_in zone t ≡ span_of (kind_at value footer t)
  pub reads : (x : ℤ) → IsInYears x → all_in_force (total_in zone) x ≡ all_in_force (told_total_at value footer) x

-- the file says the value that the zone shows
pub record IsFileOf (bytes : List ℕ) (zone : OpenZone) : Type 0 where
  pub value : ZoneValue
  pub told : Says bytes value
  pub shows : ShowsFile value zone

-- the file says a value whose footer can't be read
pub record HasNoFooter (bytes : List ℕ) : Type 0 where
  pub value : ZoneValue
  pub told : Says bytes value
  pub footer : IsNoFooter value.footer

-- the file says a value whose footer, if it has one, can be read
pub record HasZone (bytes : List ℕ) : Type 0 where
  pub value : ZoneValue
  pub told : Says bytes value
  pub footer : ¬ (IsNoFooter value.footer)

-- why a file gives no zone; memory is wanting only where there is one
abbrev pub IsFileFault : List ℕ → FileFault → Type 0
IsFileFault bytes Refused = (value : ZoneValue) → ¬ (Says bytes value)
IsFileFault bytes Footer = HasNoFooter bytes
IsFileFault bytes NoMemory = HasZone bytes

-- the same of a value
abbrev pub IsValueFault : ZoneValue → FileFault → Type 0
IsValueFault value Refused = ⊥
IsValueFault value Footer = IsNoFooter value.footer
IsValueFault value NoMemory = ¬ (IsNoFooter value.footer)

-- it shows a value without changes, with the standard time of a POSIX string, and the string for its footer
pub record IsPosixOf (text : List ℕ) (zone : OpenZone) : Type 0 where
  pub value : FooterValue
  pub is : IsFooterOf text value
  pub shows : ShowsFile (record { first = standard_kind value; rest = []; footer = text }) zone
