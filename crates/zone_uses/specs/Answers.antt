-- What the callers answer.
use Rattle.std.specs.{Prelude.{◌≡◌, ℕ, ℤ, int_lt, List, [], ◌∷◌, Option, Some, None, Ok}, List.{find}}
use Rattle.tz_posix.specs.{Parses.{IsParsed}, PosixShown.{posix_of}, PosixZones.{GivesTotal}, declared.posix.PosixTz.{PosixTz}}
use Rattle.tz_lookup.specs.declared.set.FixedTimespanSet.{FixedTimespanSet}
use Rattle.tz_tzif.specs.{FooterForce.{FooterZone}, Faults.{SaysInFooter}, InForce.{told_total_at}}
use Rattle.zone_tzif_core.specs.{Denotes.{Says}, Zones.{ZoneValue}}

-- the first of a list, if it has one
abbrev pub first_of : {A : Type 0} → List A → Option A
first_of [] = None
first_of (first ∷ rest) = Some first

-- the first of these times that lies after a second
abbrev pub next_after : List ℤ → ℤ → Option ℤ
next_after times second = find (int_lt second) times

-- the text is read as a zone over those of a database, and that gives the instant this total
pub record IsGivenBy (text : List ℕ) (zones : List FixedTimespanSet) (t total : ℤ) : Type 0 where
  pub zone : PosixTz
  pub is_parsed : IsParsed text zones (Ok zone)
  pub given : GivesTotal (posix_of zone) t total

-- the bytes are a file of a zone that has this total at an instant, from its last change on by what its footer says
pub record IsGivenByFile (bytes : List ℕ) (t total : ℤ) : Type 0 where
  pub value : ZoneValue
  pub footer : Option FooterZone
  pub is_file : Says bytes value
  pub says : SaysInFooter value.footer footer
  pub is : total ≡ told_total_at value footer t
