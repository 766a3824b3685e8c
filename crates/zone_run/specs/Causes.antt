-- Why a run over a source has no answer.
use Rattle.std.specs.{Prelude.{ℕ, List, Option, Some, Ok, Err, option_map}, Option.{option_or}}
use Rattle.zone_source.specs.Faults.{SourceFault, source_fault}
use Rattle.zone_spans.specs.declared.span.FixedTimespanSet as spans
use Rattle.tz_lookup.specs.declared.set.FixedTimespanSet.{FixedTimespanSet}
use Rattle.zone_run.specs.{Readings.{Found, Reading, Spans, ZoneCause, found_in}, Tasks.{Task}}

-- the source has a fault; the zone can't be asked; the program refuses it
pub data Cause : Type 0 where
  of_source : SourceFault → Cause
  of_zone : ZoneCause → Cause
  of_program : List ℕ → Cause

-- spans under a name
abbrev pub named : List ℕ → spans.FixedTimespanSet → FixedTimespanSet
named name set = record { name = name; first = set.first; others = set.rest }

-- why what the name finds is refused
abbrev pub zone_cause : Task → Found Spans → Option Cause
zone_cause task (Err cause) = Some (of_zone cause)
zone_cause task (Ok set) = option_map of_program (task.asked.cause (named task.zone set))

-- the first cause, if there is one: a fault of the source comes before all that concerns the zone
unfoldable pub cause : Reading Spans → Task → List ℕ → Option Cause
cause read task source = option_or (option_map of_source (source_fault source)) (zone_cause task (found_in read source task.zone))
