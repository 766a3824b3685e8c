-- The file of a zone for ever, and why there is none.
use Rattle.std.specs.Prelude.{◌≡◌, ◌⊎◌, ℕ, Bool, true, ◌&&◌, nat_le, List, [], filter, Option, Some, None, if◌then◌else◌, ℤ, int_le}
use Rattle.tz_tzif.specs.{FooterForce.{FooterZone}, Values.{FooterValue, SavingValue}}
use Rattle.tz_posix.specs.declared.time.Offset.{Offset}
use Rattle.tz_lookup.specs.declared.set.FixedTimespanSet.{FixedTimespanSet}
use Rattle.zone_spans.specs.Entries.{Entry}
use Rattle.zone_tzif.specs.{Agreement.{IsCovered, cycle_begin}, Tails.{IsFaultForEver, IsNotSaved, IsSavedFrom, IsTailForEver}, Files.{IsFileFault}, Values.{value_by}, declared.convert.Saves.TheVariants.{Any}, declared.ever.EverFileFault.{EverFileFault}}
use Rattle.zone_tzif.specs.declared.file.FileFault.{FileFault}
use Rattle.zone_tzif.specs.declared.ever.EverFileFault.TheVariants as fault
use Rattle.zone_tzif_core.specs.{Tzif.{IsTzifBy, write_fault}, Zones.{ZoneValue}, declared.values.Version.{Version}, declared.values.Version.TheVariants.{Two, Three}}

-- the entries up to a second
unfoldable pub entries_until : ℤ → List Entry → List Entry
entries_until second entries = filter (λ e. int_le e.0 second) entries

abbrev pub until : ℤ → FixedTimespanSet → FixedTimespanSet
until second set = record { name = set.name; first = set.first; others = entries_until second set.others }

-- a rule's time without `-`, of 24 hours at most: more is for version 3 (RFC 8536, 3.3.1)
abbrev pub is_posix_time : Option Offset → Bool
is_posix_time None = true
is_posix_time (Some time) = time.positive && nat_le time.time.hh 24

abbrev pub version_with : Option SavingValue → Version
version_with None = Two
version_with (Some saving) = if is_posix_time saving.rule.start.1 && is_posix_time saving.rule.end.1 then Two else Three

-- the least version that has a footer
abbrev pub version_for : FooterValue → Version
version_for footer = version_with footer.saving

-- the changes up to 2102-01-01 00:00:00 UTC, from which on each year comes again, with any saving but 0 as daylight saving time
abbrev pub ever_zone : FixedTimespanSet → List ℕ → ZoneValue
ever_zone set footer = value_by Any (until cycle_begin set) footer

-- a footer, in the version that has it: what carries the set on for ever; or none, where daylight saving time holds for good
pub record IsCarried (set : FixedTimespanSet) (version : Version) (footer : List ℕ) : Type 0 where
  pub from : Option ℤ
  pub tail : IsTailForEver set from footer
  pub is : version ≡ version_for tail.carries.stands.value

pub record IsSaved (set : FixedTimespanSet) (version : Version) (footer : List ℕ) : Type 0 where
  pub from : Option ℤ
  pub saved : IsSavedFrom set from
  pub is : version ≡ Two
  pub none : footer ≡ []

abbrev pub IsFooterFor : FixedTimespanSet → Version → List ℕ → Type 0
IsFooterFor set version footer = IsCarried set version footer ⊎ IsSaved set version footer

-- the bytes are the file of these changes and of that footer
pub record IsEverFile (set : FixedTimespanSet) (bytes : List ℕ) : Type 0 where
  pub version : Version
  pub footer : List ℕ
  pub due : IsFooterFor set version footer
  pub is : IsTzifBy version bytes (ever_zone set footer)

-- this refuses the file
pub record IsNoEverFile (set : FixedTimespanSet) (fault : FileFault) : Type 0 where
  pub version : Version
  pub footer : List ℕ
  pub due : IsFooterFor set version footer
  pub is : IsFileFault fault (write_fault (ever_zone set footer))

abbrev pub IsEverFileFault : FixedTimespanSet → EverFileFault → Type 0
IsEverFileFault set (fault.Footer cause) = IsFaultForEver set cause × IsNotSaved set
IsEverFileFault set (fault.File cause) = IsNoEverFile set cause

-- an instant up to the end of the year 9999 by the standard time of what a footer says
abbrev pub IsInReach : Option FooterZone → ℤ → Type 0
IsInReach None t = Unit {0}
IsInReach (Some footer) t = IsCovered footer None t
