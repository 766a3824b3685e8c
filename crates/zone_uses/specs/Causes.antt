-- Why the callers have no answer.
use Rattle.std.specs.Prelude.{◌≡◌, ◌≤◌, ℕ, List, length, ℤ, true, false, Some, None, Ok, Err}
use Rattle.sefunjaro.specs.{AnySources.{IsAnyFault, IsAnySource}, Causes.{IsSourceCause}, Files.{IsFileFault}, Sources.{table_in}, declared.source.OpenSource.{OpenSource}, declared.error.Error.{Error}}
use Rattle.sefunjaro.specs.declared.any_source.AnySourceFault.TheVariants as any_source
use Rattle.sefunjaro.specs.declared.error.Error.TheVariants as error
use Rattle.sefunjaro.specs.declared.file.FileFault.TheVariants as opened_file
use Rattle.tz_posix.specs.{Parses.{IsParsed}, PosixShown.{posix_of}, PosixZones.{posix_refusal}, declared.error.ParseError.{ParseError}, declared.posix.PosixTz.{PosixTz}}
use Rattle.tz_posix.specs.declared.error.Error as range
use Rattle.tz_tzif.specs.declared.fault.TzifFault.TheVariants as file_zone
use Rattle.tz_lookup.specs.{Compiles.{compiled_in, IsZoneFault}, declared.compile.ZoneFault.{ZoneFault}, declared.set.FixedTimespanSet.{FixedTimespanSet}}
use Rattle.tz_lookup.specs.declared.compile.ZoneFault.TheVariants as zone
use Rattle.zone_alarm.specs.Rings.{ends_in_years}
use Rattle.zone_alarm.specs.declared.ring.AlarmFault.TheVariants as alarm
use Rattle.zone_outside.specs.Limit.{text_limit}
use Rattle.zone_source.specs.{Faults.{source_fault}, Zones.{values_of}}
use Rattle.zone_table.specs.{Tables.{IsTableOf}, declared.table.Table.{Table}}
use Rattle.zone_tzif_core.specs.declared.values.ReadFault.TheVariants as read

-- the source isn't too long, no line of it is refused, and the name has no zone in its table
pub record IsNoZone (source name : List ℕ) (fault : ZoneFault) : Type 0 where
  pub short : length source ≤ text_limit
  pub valid : source_fault source ≡ None
  pub table : Table
  pub is_table : IsTableOf table (values_of source)
  pub cause : IsZoneFault (compiled_in table name) fault

-- why a name has no zone in a source: the source is refused, or the name; or the source isn't too long, and memory ran out
abbrev pub IsOpenCause : List ℕ → List ℕ → Error → Type 0
IsOpenCause source name error.TooLong = IsSourceCause source error.TooLong
IsOpenCause source name (error.Source fault) = IsSourceCause source (error.Source fault)
IsOpenCause source name (error.Zone zone.NoMemory) = ⊥
IsOpenCause source name (error.Zone fault) = IsNoZone source name fault
IsOpenCause source name error.NoMemory = length source ≤ text_limit
IsOpenCause source name _ = ⊥

-- the text is that of a source in which the name has no zone
pub record IsNoZoneIn (text name : List ℕ) (fault : ZoneFault) : Type 0 where
  pub source : OpenSource
  pub is_source : IsAnySource text source
  pub cause : IsZoneFault (compiled_in (table_in source) name) fault

-- why a zone of a source in any form has no offset: the source is refused, or the name; or the text isn't too long, and memory ran out
abbrev pub IsOffsetCause : List ℕ → List ℕ → Error → Type 0
IsOffsetCause text name error.TooLong = IsAnyFault text any_source.TooLong
IsOffsetCause text name (error.Line n cause) = IsAnyFault text (any_source.Line n cause)
IsOffsetCause text name error.PlainTooLong = IsAnyFault text any_source.PlainTooLong
IsOffsetCause text name (error.Plain fault) = IsAnyFault text (any_source.Plain fault)
IsOffsetCause text name (error.Zone zone.NoMemory) = ⊥
IsOffsetCause text name (error.Zone fault) = IsNoZoneIn text name fault
IsOffsetCause text name error.NoMemory = length text ≤ text_limit
IsOffsetCause text name _ = ⊥

-- there is such a cause
pub record HasOffsetCause (text name : List ℕ) : Type 0 where
  pub error : Error
  pub cause : IsOffsetCause text name error

-- why an alarm has no rings: its last day is past the years; or it isn't, and memory ran out
abbrev pub IsAlarmCause : ℤ → ℕ → Error → Type 0
IsAlarmCause first days (error.Alarm alarm.Range) = ends_in_years first days ≡ false
IsAlarmCause first days error.NoMemory = ends_in_years first days ≡ true
IsAlarmCause first days _ = ⊥

-- why bytes have no zone: they are no file, or the footer of one can't be read; or they are one, and memory ran out
abbrev pub IsFileCause : List ℕ → Error → Type 0
IsFileCause bytes (error.File read.Refused) = IsFileFault bytes opened_file.Refused
IsFileCause bytes (error.FileZone file_zone.Footer) = IsFileFault bytes opened_file.Footer
IsFileCause bytes error.NoMemory = IsFileFault bytes opened_file.NoMemory
IsFileCause bytes _ = ⊥

-- why a text gives an instant no offset: it is no zone over those of a database; or it is one, and refuses the instant's year
pub data IsNotGiven (text : List ℕ) (zones : List FixedTimespanSet) (t : ℤ) : Type 0 where
  no_zone : (why : ParseError) → IsParsed text zones (Err why) → IsNotGiven text zones t
  no_year : (zone : PosixTz) → IsParsed text zones (Ok zone) → (why : range.Error) → posix_refusal (posix_of zone) t ≡ Some why
      → IsNotGiven text zones t
