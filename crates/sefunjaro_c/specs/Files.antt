-- Zones that are opened from the bytes of a compiled file, or from a POSIX string.
use Rattle.std.specs.{Prelude.{◌≡◌, ◌<◌, ◌⊎◌, ℕ, List, true, false}, Str.{is_utf8}}
use Rattle.sefunjaro.specs.{Files.{IsFileFault, IsPosixOf}, Posix.{IsPosixFault}, declared.file.FileFault.{FileFault}, declared.file.PosixFault.{PosixFault}, declared.zone.OpenZone.{OpenZone}}
use Rattle.sefunjaro.specs.declared.file.FileFault.TheVariants as file
use Rattle.sefunjaro.specs.declared.file.PosixFault.TheVariants as posix
use Rattle.sefunjaro_c.specs.{Statuses.{not_read, not_text, out_of_memory}, Faults.{plain}, declared.fault.Fault.{Fault}}

-- why a file isn't opened, in numbers
abbrev pub file_told : FileFault → Fault
file_told file.Refused = record { status = not_read; cause = 1; line = 0 }
file_told file.Footer = record { status = not_read; cause = 2; line = 0 }
file_told file.NoMemory = plain out_of_memory

-- a cause that holds of the bytes is told, or that memory ran out
pub record IsFileRefused (bytes : List ℕ) (fault : Fault) : Type 0 where
  pub cause : FileFault
  pub holds : IsFileFault bytes cause
  pub told : fault ≡ file_told cause
  pub refused : 0 < fault.status

-- why a POSIX string isn't opened
abbrev pub posix_told : PosixFault → Fault
posix_told posix.Refused = plain not_read
posix_told posix.NoMemory = plain out_of_memory

pub record IsPosixFaultTold (text : List ℕ) (fault : Fault) : Type 0 where
  pub cause : PosixFault
  pub holds : IsPosixFault text cause
  pub told : fault ≡ posix_told cause

-- the bytes are no text, or a cause that holds of the text is told, or that memory ran out
pub record IsPosixRefused (text : List ℕ) (fault : Fault) : Type 0 where
  pub told : ((is_utf8 text ≡ false) × (fault ≡ plain not_text)) ⊎ IsPosixFaultTold text fault
  pub refused : 0 < fault.status

-- the zone is that of a string which is UTF-8
pub record IsTextOf (text : List ℕ) (zone : OpenZone) : Type 0 where
  pub valid : is_utf8 text ≡ true
  pub string : IsPosixOf text zone
