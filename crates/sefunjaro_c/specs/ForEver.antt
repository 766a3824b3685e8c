-- The string that carries a zone on for ever, and the zone's file with it; and why there is none, in numbers.
use Rattle.std.specs.Prelude.{◌≡◌, ◌⊎◌, ℕ, ℤ, Bool, true, List, length, Option, Some, None}
use Rattle.tz_ever.specs.{Ever.{ever_total}, ZoneShown.{zone_set_of}, declared.zone_set.ZoneSet.{ZoneSet}}
use Rattle.tz_tzif.specs.{FooterForce.{FooterZone}, Faults.{SaysInFooter}, InForce.{told_total_at}}
use Rattle.tz_posix.specs.{Spells.{Spells}, Values.{TzValue}}
use Rattle.zone_tzif.specs.{Tails.{IsFaultForEver, IsTailForEver}, declared.outcome.EverTailFault.{EverTailFault}, EverFiles.{IsEverFile, IsEverFileFault, IsInReach}, declared.ever.EverFileFault.{EverFileFault}, declared.file.FileFault.{FileFault}}
use Rattle.zone_tzif.specs.declared.outcome.EverTailFault.TheVariants as tail
use Rattle.zone_tzif.specs.declared.ever.EverFileFault.TheVariants as ever_fault
use Rattle.zone_tzif.specs.declared.file.FileFault.TheVariants as file
use Rattle.zone_tzif_core.specs.{Denotes.{Denotes}, Zones.{ZoneValue}}
use Rattle.sefunjaro.specs.{PosixNames.{is_posix_string, IsSpelled}, Rooms.{filled}}
use Rattle.sefunjaro_c.specs.{Statuses.{done, out_of_memory}, Faults.{plain}, Whole.{none_for}, declared.fault.Fault.{Fault}}

-- the zone doesn't go on
abbrev pub rules_end : Fault
rules_end = none_for 8

-- it goes on, and no string does so with it
abbrev pub ever_tail_told : EverTailFault → Fault
ever_tail_told tail.Shape = none_for 1
ever_tail_told tail.OffsetRange = none_for 2
ever_tail_told tail.Name = none_for 3
ever_tail_told tail.NoRule = none_for 4
ever_tail_told tail.Saving = none_for 9
ever_tail_told tail.NoMemory = plain out_of_memory

-- whether a text is a string that POSIX has a place for, with its names and its times
pub record IsPosix (text : List ℕ) (is_posix : Bool) : Type 0 where
  pub read : is_posix ≡ true → IsSpelled text
  pub told : (value : TzValue) → Spells text value → is_posix ≡ is_posix_string value

-- the string that carries the zone on for ever stands in the room, as far as it fits, and its length is told
pub record IsEverTailIn (ever : ZoneSet) (old new : List ℕ) (whole : ℕ) (is_posix : Bool) : Type 0 where
  pub from : Option ℤ
  pub text : List ℕ
  pub tail : IsTailForEver (zone_set_of ever) from text
  pub room : new ≡ filled text old
  pub length : whole ≡ length text
  pub posix : IsPosix text is_posix

-- why there is none; want of memory comes only where no cause but 4 is due
pub record IsNoEverTail (ever : ZoneSet) (fault : Fault) : Type 0 where
  pub why : EverTailFault
  pub holds : IsFaultForEver (zone_set_of ever) why
  pub told : fault ≡ ever_tail_told why

-- it is told, or why there is none
abbrev pub IsEverTailTold : Option ZoneSet → List ℕ → List ℕ → ℕ → Bool → Fault → Type 0
IsEverTailTold None old new whole is_posix fault = (fault ≡ rules_end) × (new ≡ old)
IsEverTailTold (Some ever) old new whole is_posix fault =
    ((fault ≡ plain done) × IsEverTailIn ever old new whole is_posix) ⊎ (IsNoEverTail ever fault × (new ≡ old))

-- ---- the file

-- its changes are those of no file
abbrev pub ever_file_told : FileFault → Fault
ever_file_told file.Times = none_for 5
ever_file_told file.Types = none_for 6
ever_file_told file.Names = none_for 7
ever_file_told file.NoMemory = plain out_of_memory

abbrev pub ever_told : EverFileFault → Fault
ever_told (ever_fault.Footer cause) = ever_tail_told cause
ever_told (ever_fault.File cause) = ever_file_told cause

-- The zone's file for ever stands in the room, as far as it fits, and its length is told. Whatever is read from it shows, with its footer,
-- what the zone shows, up to the end of the year 9999.
pub record IsEverFileIn (ever : ZoneSet) (old new : List ℕ) (whole : ℕ) : Type 0 where
  pub bytes : List ℕ
  pub file : IsEverFile (zone_set_of ever) bytes
  pub room : new ≡ filled bytes old
  pub length : whole ≡ length bytes
  pub totals : (zone : ZoneValue) (footer : Option FooterZone) (t : ℤ) → Denotes bytes zone → SaysInFooter zone.footer footer → IsInReach footer t
      → told_total_at zone footer t ≡ ever_total (zone_set_of ever) t

-- why there is none
pub record IsNoEverFile (ever : ZoneSet) (fault : Fault) : Type 0 where
  pub why : EverFileFault
  pub holds : IsEverFileFault (zone_set_of ever) why
  pub told : fault ≡ ever_told why

-- it is told, or why there is none
abbrev pub IsEverFileTold : Option ZoneSet → List ℕ → List ℕ → ℕ → Fault → Type 0
IsEverFileTold None old new whole fault = (fault ≡ rules_end) × (new ≡ old)
IsEverFileTold (Some ever) old new whole fault =
    ((fault ≡ plain done) × IsEverFileIn ever old new whole) ⊎ (IsNoEverFile ever fault × (new ≡ old))
