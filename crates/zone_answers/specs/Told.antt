-- The fault that the code's error tells; want of memory tells none.
use Rattle.std.specs.Prelude.{◌≡◌, ℕ, Option, Some, None, MatchOption, option_map}
use Rattle.zone_table.specs.Faults.{fault_of}
use Rattle.zone_source.specs.{Told.{told_by_source, IsTold}, declared.error.SourceError.{SourceError}}
use Rattle.zone_source.specs.Faults as source
use Rattle.zone_spans.specs.declared.fault.SpanFault.{SpanFault}
use Rattle.zone_spans.specs.declared.fault.SpanFault.TheVariants as span_fault
use Rattle.tz_lookup.specs.declared.compile.ZoneFault.{ZoneFault}
use Rattle.tz_lookup.specs.declared.compile.ZoneFault.TheVariants as zone_fault
use Rattle.zone_answers.specs.{Faults.{Fault, of_source, request_not_text, bad_request, bad_zone, range}, Found.{unknown_zone, bad_schedule, offset_range, rules_end}, declared.error.AnswerError.{AnswerError}, declared.error.ReadingError.{ReadingError}}
use Rattle.zone_answers.specs.declared.error.Side.{Side, TheVariants.{Source, Requests}}
use Rattle.zone_answers.specs.declared.error.AnswerError.TheVariants as error
use Rattle.zone_answers.specs.declared.error.ReadingError.TheVariants as reading

abbrev pub not_text : Side → ℕ → Fault
not_text Source n = of_source (source.not_text n)
not_text Requests n = request_not_text n

-- why a zone has no schedule
abbrev pub span_told : SpanFault → Option SpanFault
span_told span_fault.NoMemory = None
span_told fault = Some fault

abbrev pub fault_told : AnswerError → Option Fault
fault_told (error.NotText side n) = Some (not_text side n)
fault_told (error.Line n e) = option_map (λ f. of_source (source.bad_line n f)) (fault_of e)
fault_told (error.Build n kind) = Some (of_source (source.bad_join n kind))
fault_told (error.Request n) = Some (bad_request n)
fault_told (error.UnknownZone n) = Some (bad_zone n unknown_zone)
fault_told (error.Schedule n fault) = option_map (λ told. bad_zone n (bad_schedule told)) (span_told fault)
fault_told (error.OffsetRange n) = Some (bad_zone n offset_range)
fault_told (error.Range n) = Some (range n)
fault_told error.NoMemory = None

-- the error tells the fault that was found, or memory ran out
abbrev pub TellsOf : Option Fault → AnswerError → Type 0
TellsOf found e = IsTold fault_told error.NoMemory found e

-- the same where zones are read in any way
abbrev pub reading_told : ReadingError → Option Fault
reading_told (reading.Answer e) = fault_told e
reading_told (reading.RulesEnd n) = Some (bad_zone n rules_end)

abbrev pub TellsReading : Option Fault → ReadingError → Type 0
TellsReading found e = IsTold reading_told (reading.Answer error.NoMemory) found e

-- it tells the fault of the source
abbrev pub TellsSame : SourceError → AnswerError → Type 0
TellsSame source_error e = MatchOption (told_by_source source_error) (e ≡ error.NoMemory) (λ f. fault_told e ≡ Some (of_source f))

-- why the zone that the nth request names can't be asked
abbrev pub RefusesZone : ℕ → ZoneFault → AnswerError → Type 0
RefusesZone n zone_fault.UnknownZone e = e ≡ error.UnknownZone n
RefusesZone n (zone_fault.Schedule fault) e = e ≡ error.Schedule n fault
RefusesZone n zone_fault.OffsetRange e = e ≡ error.OffsetRange n
RefusesZone n zone_fault.NoMemory e = e ≡ error.NoMemory
