-- The bytes that a run over a source is to write.
use Rattle.std.specs.{Prelude.{ℕ, List, [], ◌∷◌, ◌++◌, Ok, Err, codes}, Option.{option_map_or}}
use Rattle.zone_source.specs.FaultLines.{source_line}
use Rattle.zone_spans.specs.FaultNames.{fault_name}
use Rattle.zone_run.specs.{Causes.{Cause, of_source, of_zone, of_program, cause, named}, Readings.{Found, Reading, Spans, ZoneCause, unknown_zone, bad_schedule, offset_range, rules_end, found_in}, Tasks.{Task}}

-- `list: unknown zone`: the program's label, and why
abbrev pub labelled : List ℕ → List ℕ → List ℕ → List ℕ
labelled label group why = ((label ++ codes ": ") ++ group) ++ why

-- the line that tells why a zone can't be asked
abbrev pub zone_line : List ℕ → ZoneCause → List ℕ
zone_line label unknown_zone = labelled label [] (codes "unknown zone")
zone_line label (bad_schedule fault) = labelled label (codes "schedule ") (fault_name fault)
zone_line label offset_range = labelled label [] (codes "offset range")
zone_line label rules_end = labelled label [] (codes "rules end")

-- the line that tells a cause; that of a source has no label
abbrev pub cause_line : List ℕ → Cause → List ℕ
cause_line label (of_source fault) = source_line fault
cause_line label (of_zone why) = zone_line label why
cause_line label (of_program why) = labelled label [] why

-- what the program answers for the zone that was found
abbrev pub answer : Task → Found Spans → List ℕ
answer task (Ok set) = task.asked.due (named task.zone set)
answer task (Err cause) = []

-- the answer, or the line of the cause and a line feed
unfoldable pub due_bytes : Reading Spans → List ℕ → Task → List ℕ → List ℕ
due_bytes read label task source =
    option_map_or (λ c. cause_line label c ++ 10 ∷ []) (cause read task source) (answer task (found_in read source task.zone))
