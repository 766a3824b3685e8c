-- Why a source or a zone isn't opened, in numbers.
use Rattle.std.specs.{Prelude.{◌≡◌, ◌+◌, ◌<◌, ◌⊎◌, ℕ, List, length, nat_lt, Option, Some, None, option_map, if◌then◌else◌}, Str.{is_utf8}}
use denote.Enum.Declared.{tag_of as place_among}
use Rattle.zone_table.specs.{contracts.fault.FaultKind.{the_type as kinds}, declared.fault.FaultKind.{FaultKind}, declared.table.Table.{Table}}
use Rattle.zone_source.specs.{Faults.{SourceFault, source_fault}, Told.{told_by_source}, contracts.error.BuildKind.{the_type as joins}, declared.error.BuildKind.{BuildKind}, declared.error.SourceError.{SourceError}}
use Rattle.zone_source.specs.Faults as source
use Rattle.zone_spans.specs.{contracts.fault.SpanFault.{the_type as schedule_faults}, declared.fault.SpanFault.{SpanFault}}
use Rattle.zone_spans.specs.declared.fault.SpanFault.TheVariants as span
use Rattle.tz_lookup.specs.{declared.compile.ZoneFault.{ZoneFault}, Databases.{zone_refusal}}
use Rattle.tz_lookup.specs.declared.compile.ZoneFault.TheVariants as zone
use Rattle.sefunjaro.specs.declared.source.OpenFault.{OpenFault}
use Rattle.sefunjaro.specs.declared.source.OpenFault.TheVariants as opening
use Rattle.sefunjaro_c.specs.{Statuses.{bad_join, bad_line, no_schedule, not_text, offset_range, out_of_memory, too_long, unknown_zone}, declared.fault.Fault.{Fault}}

-- a status that says it all
abbrev pub plain : ℕ → Fault
plain status = record { status = status; cause = 0; line = 0 }

-- the cause of a line that can't be read, from 1 in the order of the variants
abbrev pub kind_number : FaultKind → ℕ
kind_number kind = place_among kinds kind + 1

-- the cause of a line that may not follow those before it
abbrev pub join_number : BuildKind → ℕ
join_number kind = place_among joins kind + 1

-- the cause of a zone without a schedule, from 1 in the order of the variants; 0 for want of memory
abbrev pub schedule_number : SpanFault → ℕ
schedule_number span.NoMemory = 0
schedule_number fault = place_among schedule_faults fault + 1

abbrev pub fault_told : SourceFault → Fault
fault_told (source.not_text n) = record { status = not_text; cause = 0; line = n }
fault_told (source.bad_line n fault) = record { status = bad_line; cause = kind_number fault.kind; line = n }
fault_told (source.bad_join n kind) = record { status = bad_join; cause = join_number kind; line = n }

abbrev pub told_or_memory : Option SourceFault → Fault
told_or_memory None = plain out_of_memory
told_or_memory (Some fault) = fault_told fault

abbrev pub error_told : SourceError → Fault
error_told error = told_or_memory (told_by_source error)

abbrev pub opening_told : OpenFault → Fault
opening_told opening.TooLong = plain too_long
opening_told (opening.Source error) = error_told error
opening_told opening.NoMemory = plain out_of_memory

abbrev pub zone_told : ZoneFault → Fault
zone_told zone.UnknownZone = plain unknown_zone
zone_told (zone.Schedule fault) = record { status = no_schedule; cause = schedule_number fault; line = 0 }
zone_told zone.OffsetRange = plain offset_range
zone_told zone.NoMemory = plain out_of_memory

-- why a text isn't opened as a source, if so: it is too long, else its first fault
unfoldable pub source_due : List ℕ → Option Fault
source_due text = if nat_lt 16777216 (length text) then Some (plain too_long) else option_map fault_told (source_fault text)

-- why the zone of a name isn't opened, if so: the name is no text, else what keeps its zone from being looked up
unfoldable pub zone_due : Table → List ℕ → Option Fault
zone_due table name = if is_utf8 name then option_map zone_told (zone_refusal table name) else Some (plain not_text)

-- the fault that is due is told, or that memory ran out
pub record IsRefused (due : Option Fault) (fault : Fault) : Type 0 where
  pub told : (fault ≡ plain out_of_memory) ⊎ (due ≡ Some fault)
  pub refused : 0 < fault.status
