-- Sources in any form, and why one isn't opened, in numbers.
use Rattle.std.specs.Prelude.{◌≡◌, ℕ, List, length, nat_lt, Option, Some, None, Result, Ok, Err, option_map, if◌then◌else◌}
use Rattle.zone_plain_lines.specs.{declared.cause.PlainCause.{PlainCause}, LineFaults.{Refusal, bad_line}}
use Rattle.zone_plain_lines.specs.declared.cause.PlainCause.TheVariants as cause
use Rattle.zone_plain_lines.specs.LineFaults as refused
use Rattle.zone_plain.specs.Plain.{plain_of}
use Rattle.zone_source.specs.{Releases.{release_of}, Faults.{source_fault}, Zones.{values_of}}
use Rattle.zone_table.specs.Tables.{IsTableOf}
use Rattle.sefunjaro.specs.{Sources.{table_in, release_in}, declared.any_source.AnySourceFault.{AnySourceFault}, declared.source.OpenSource.{OpenSource}}
use Rattle.sefunjaro.specs.declared.any_source.AnySourceFault.TheVariants as opening
use Rattle.sefunjaro_c.specs.{Statuses.{no_plain_form, out_of_memory, too_long}, Faults.{error_told, fault_told, plain}, declared.fault.Fault.{Fault}}

-- the cause of a line that has no plain form
abbrev pub plain_number : PlainCause → ℕ
plain_number cause.NotText = 1
plain_number cause.Quotes = 2
plain_number cause.LineType = 3
plain_number cause.FieldCount = 4
plain_number cause.RulesetName = 5
plain_number cause.Year = 6
plain_number cause.YearOrder = 7
plain_number cause.Type = 8
plain_number cause.Month = 9
plain_number cause.Day = 10
plain_number cause.Time = 11
plain_number cause.Saving = 12
plain_number cause.Format = 13
plain_number cause.Unsayable = 14
plain_number cause.Continuation = 15
plain_number cause.UnknownRuleset = 16
plain_number cause.DuplicateZone = 17
plain_number cause.LinkIsZone = 18
plain_number cause.DuplicateLink = 19
plain_number cause.Target = 20
plain_number cause.Name = 22

abbrev pub line_told : ℕ → PlainCause → Fault
line_told n c = record { status = no_plain_form; cause = plain_number c; line = n }

-- the plain form would be longer than 16,777,216 bytes
abbrev pub long_form : Fault
long_form = record { status = no_plain_form; cause = 21; line = 0 }

abbrev pub refusal_told : Refusal → Fault
refusal_told (bad_line fault) = line_told fault.number fault.cause
refusal_told refused.too_long = long_form

-- why there is no plain form, or the first fault of its lines
abbrev pub form_due : Result (List ℕ) Refusal → Option Fault
form_due (Ok form) = option_map fault_told (source_fault form)
form_due (Err refusal) = Some (refusal_told refusal)

-- why a text isn't opened as a source in any form, if so: it is too long, else why it has no plain form, else that form's first fault
unfoldable pub any_due : List ℕ → Option Fault
any_due text = if nat_lt 16777216 (length text) then Some (plain too_long) else form_due (plain_of text)

abbrev pub any_told : AnySourceFault → Fault
any_told opening.TooLong = plain too_long
any_told (opening.Line n c) = line_told n c
any_told opening.PlainTooLong = long_form
any_told (opening.Plain error) = error_told error
any_told opening.NoMemory = plain out_of_memory

-- the source is that of the plain form of a text, in which there is no fault, with the release that the text names
pub record IsAnySourceOf (text : List ℕ) (source : OpenSource) : Type 0 where
  pub valid : any_due text ≡ None
  pub form : List ℕ
  pub written : plain_of text ≡ Ok form
  pub table : IsTableOf (table_in source) (values_of form)
  pub release : release_in source ≡ release_of text
