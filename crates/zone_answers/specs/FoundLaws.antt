-- An error tells why the zone of a request can't be asked.
use Rattle.std.proofs.Common.{◌≡◌, ◌≢◌, ℕ, ℤ, Option, Some, Result, refl}
use Rattle.tz_lookup.specs.{Compiles.{IsZoneFault}, declared.compile.ZoneFault.{ZoneFault}}
use Rattle.tz_lookup.specs.declared.compile.ZoneFault.TheVariants as zone
use Rattle.zone_run.specs.{Readings.{Found}, Responses.{TellsCause}, declared.found.FindFault.TheVariants.{Zone}}
use Rattle.zone_spans.specs.declared.{fault.SpanFault.{SpanFault}, span.FixedTimespanSet.{FixedTimespanSet}}
use Rattle.zone_spans.specs.declared.fault.SpanFault.TheVariants as span
use Rattle.zone_answers.specs.{Faults.{zone_refusal}, Told.{span_told, RefusesZone, TellsReading}, declared.error.AnswerError.{AnswerError}, declared.error.ReadingError.TheVariants.{Answer}}

span_is_told : (fault : SpanFault) → fault ≢ span.NoMemory → span_told fault ≡ Some fault
span_is_told span.UnknownRuleset other = refl
span_is_told span.MissingUntil other = refl
span_is_told span.YearRange other = refl
span_is_told span.RuleYears other = refl
span_is_told span.DayRange other = refl
span_is_told span.NoStandardSpan other = refl
span_is_told span.NoMemory other = absurd (other refl)

-- a fault of lines that were compiled as this is told by the error that stands for it
pub fault_told_so : (found : Found (ℤ → ℤ)) (compiles : Option (Result FixedTimespanSet SpanFault)) (n : ℕ) (fault : ZoneFault) (error : AnswerError)
    → TellsCause found (Zone fault) → IsZoneFault compiles fault → RefusesZone n fault error → TellsReading (zone_refusal n found) (Answer error)
fault_told_so found compiles n zone.UnknownZone error tells is refused = rw (tells, refused) refl
fault_told_so found compiles n (zone.Schedule fault) error tells is refused = rw (tells, refused, span_is_told fault is.1) refl
fault_told_so found compiles n zone.OffsetRange error tells is refused = rw (tells, refused) refl
fault_told_so found compiles n zone.NoMemory error tells is refused = rw refused refl
