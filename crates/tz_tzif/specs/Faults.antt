-- Which compiled zones can be looked up, and why others can't.
use Rattle.std.specs.{Prelude.{◌≡◌, ◌≢◌, ℕ, Bool, true, false, ◌&&◌, List, [], Option, Some, None}, List.{list_all}}
use Rattle.tz_tzif.specs.{FooterForce.{FooterZone}, Ranges.{IsFooterOf}, Standing.{StandsFor}, Values.{FooterValue}, declared.fault.TzifFault.{TzifFault}, declared.fault.TzifFault.TheVariants.{Times, Offset, Footer, NoMemory}}
use Rattle.zone_tzif_core.specs.Zones.{ZoneValue, is_small, rises}

-- an empty footer says nothing
abbrev pub SaysInFooter : List ℕ → Option FooterZone → Type 0
SaysInFooter text None = text ≡ []
SaysInFooter text (Some footer) = StandsFor text footer

-- there is a text, and it is no footer
pub record IsNoFooter (text : List ℕ) : Type 0 where
  pub some : text ≢ []
  pub none : (value : FooterValue) → ¬ (IsFooterOf text value)

-- each offset is at most 93,599 in size
abbrev pub are_small : ZoneValue → Bool
are_small zone = is_small zone.first.utoff && list_all (λ change. is_small change.1.utoff) zone.rest

-- what a zone that can be looked up has
pub record IsAcceptedFile (zone : ZoneValue) (footer : Option FooterZone) : Type 0 where
  pub times : rises zone.rest ≡ true
  pub offsets : are_small zone ≡ true
  pub says : SaysInFooter zone.footer footer

-- the times rise and the offsets are small
abbrev pub HasOffsets : ZoneValue → Type 0
HasOffsets zone = (rises zone.rest ≡ true) × (are_small zone ≡ true)

-- the first cause, in the order of the variants; for want of memory there is none
abbrev pub IsTzifFault : ZoneValue → TzifFault → Type 0
IsTzifFault zone Times = rises zone.rest ≡ false
IsTzifFault zone Offset = (rises zone.rest ≡ true) × (are_small zone ≡ false)
IsTzifFault zone Footer = HasOffsets zone × IsNoFooter zone.footer
IsTzifFault zone NoMemory = HasOffsets zone × (¬ (IsNoFooter zone.footer))
