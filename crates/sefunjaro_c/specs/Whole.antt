-- The string that carries a zone on, and the zone's file; and why there is none, in numbers.
use Rattle.std.specs.Prelude.{◌≡◌, ◌⊎◌, ℕ, zero, suc, ℤ, Bool, List, length, Option, None, option_map}
use Rattle.zone_tail.specs.{Carried.{CarriesOn}, Tails.{tail_fault, IsTail}, declared.outcome.TailFault.{TailFault}}
use Rattle.zone_tail.specs.declared.outcome.TailFault.TheVariants as tail
use Rattle.zone_tzif_core.specs.{Denotes.{Denotes}, Totals.{file_total_at}, Zones.{ZoneValue}, declared.values.WriteFault.{WriteFault}}
use Rattle.zone_tzif_core.specs.declared.values.WriteFault.TheVariants as write
use Rattle.zone_tzif.specs.{Files.{consistent_fault, consistent_file, IsCarriedOn}, declared.file.FileFault.{FileFault}}
use Rattle.zone_tzif.specs.declared.file.FileFault.TheVariants as file
use Rattle.sefunjaro.specs.{PosixNames.{has_posix_names}, Rooms.{filled}, Zones.{set_in}, declared.zone.OpenZone.{OpenZone}}
use Rattle.tz_lookup.specs.Sets.{schedule_of}
use Rattle.zone_spans.specs.Schedules.{total_at}
use Rattle.sefunjaro_c.specs.{Statuses.{done, none_there, out_of_memory}, Faults.{plain, IsRefused}, declared.fault.Fault.{Fault}}

-- there is none of what is asked for, for this cause
abbrev pub none_for : ℕ → Fault
none_for cause = record { status = none_there; cause = cause; line = 0 }

-- the same, or for want of memory, whose number is 0
abbrev pub none_told : ℕ → Fault
none_told zero = plain out_of_memory
none_told (suc n) = none_for (suc n)

-- ---- the string

-- the cause of a zone without a string
abbrev pub tail_number : TailFault → ℕ
tail_number tail.Shape = 1
tail_number tail.OffsetRange = 2
tail_number tail.Name = 3
tail_number tail.NoMemory = 0

abbrev pub tail_told : TailFault → Fault
tail_told fault = none_told (tail_number fault)

-- why a zone has no string, if so
abbrev pub tail_due : OpenZone → Option Fault
tail_due zone = option_map tail_told (tail_fault (set_in zone))

-- the string that carries the zone on stands in the room, as far as it fits, and its length is told, and whether POSIX has a place for
-- the names of the value that it spells
pub record IsTailIn (zone : OpenZone) (old new : List ℕ) (whole : ℕ) (is_posix : Bool) : Type 0 where
  pub from : Option ℤ
  pub text : List ℕ
  pub tail : IsTail (set_in zone) from text
  pub carries : CarriesOn (set_in zone) from text
  pub room : new ≡ filled text old
  pub length : whole ≡ length text
  pub named : is_posix ≡ has_posix_names carries.value

-- it is told, or why there is none
abbrev pub IsTailTold : OpenZone → List ℕ → List ℕ → ℕ → Bool → Fault → Type 0
IsTailTold zone old new whole is_posix fault =
    ((fault ≡ plain done) × IsTailIn zone old new whole is_posix) ⊎ (IsRefused (tail_due zone) fault × (new ≡ old))

-- ---- the file

-- the cause of a zone without a file; it is refused neither for an offset nor for the footer
abbrev pub file_number : WriteFault → ℕ
file_number write.Times = 1
file_number write.Types = 2
file_number write.Names = 3
file_number write.Offset = 0
file_number write.Footer = 0
file_number write.NoMemory = 0

abbrev pub tzif_told : FileFault → Fault
tzif_told file.Times = none_for (file_number write.Times)
tzif_told file.Types = none_for (file_number write.Types)
tzif_told file.Names = none_for (file_number write.Names)
tzif_told file.NoMemory = plain out_of_memory

-- why a zone has no file, if so
abbrev pub file_due : OpenZone → Option Fault
file_due zone = option_map (λ fault. none_for (file_number fault)) (consistent_fault (set_in zone))

-- The zone's file stands in the room, as far as it fits, and its length is told. Whatever is read from that file has the offset of the
-- zone's set at each instant, which is the zone's up to the end of 2099, and its footer is the string that carries the zone on, if there is one that can't say otherwise as a footer.
pub record IsFileIn (zone : OpenZone) (old new : List ℕ) (whole : ℕ) : Type 0 where
  pub none : consistent_fault (set_in zone) ≡ None
  pub room : new ≡ filled (consistent_file (set_in zone)) old
  pub length : whole ≡ length (consistent_file (set_in zone))
  pub totals : (value : ZoneValue) → Denotes (consistent_file (set_in zone)) value → (t : ℤ) → file_total_at value t ≡ total_at (schedule_of (set_in zone)) t
  pub carried : IsCarriedOn (set_in zone)

-- it is told, or why there is none
abbrev pub IsFileTold : OpenZone → List ℕ → List ℕ → ℕ → Fault → Type 0
IsFileTold zone old new whole fault =
    ((fault ≡ plain done) × IsFileIn zone old new whole) ⊎ (IsRefused (file_due zone) fault × (new ≡ old))
