-- The set of spans that a zone's lines give, or why there is none.
use Rattle.std.specs.Prelude.{◌≡◌, ℕ, List, Option, Some, None, Result, Ok, Err}
use Rattle.zone_table.specs.declared.zone.ZoneInfo.{ZoneInfo}
use Rattle.zone_spans.specs.{Collapse.{collapsed}, Entries.{Entry, first_span, sorted_entries_over}, Faults.{schedule_fault_over}, Lines.{Line, Rulesets, zone_lines}, Years.{most_years}, declared.fault.SpanFault.{SpanFault}}
use Rattle.zone_spans.specs.declared.{fault.SpanFault.TheVariants.{NoStandardSpan, NoMemory}, span.FixedTimespan.{FixedTimespan}, span.FixedTimespanSet.{FixedTimespanSet}}

-- the first span, and what the collapse keeps of the entries
abbrev pub set_of : Option FixedTimespan → List Entry → Result FixedTimespanSet SpanFault
set_of None entries = Err NoStandardSpan
set_of (Some first) entries = Ok (record { first = first; rest = collapsed first entries })

unfoldable pub set_of_lines_over : ℕ → List Line → Result FixedTimespanSet SpanFault
set_of_lines_over most lines = set_of (first_span lines (sorted_entries_over most lines)) (sorted_entries_over most lines)

abbrev pub unless : Option SpanFault → Result FixedTimespanSet SpanFault → Result FixedTimespanSet SpanFault
unless (Some fault) set = Err fault
unless None set = set

-- where lines expand so many years, those from 1800 on
unfoldable pub compiled_over : ℕ → Rulesets → List ZoneInfo → Result FixedTimespanSet SpanFault
compiled_over most rulesets infos =
    unless (schedule_fault_over most rulesets infos) (set_of_lines_over most (zone_lines rulesets infos))

-- where they expand the years to the latest
abbrev pub set_of_lines : List Line → Result FixedTimespanSet SpanFault
set_of_lines lines = set_of_lines_over most_years lines

abbrev pub compiled : Rulesets → List ZoneInfo → Result FixedTimespanSet SpanFault
compiled rulesets infos = compiled_over most_years rulesets infos

-- a call's answer beside what is due, which is none where there is no zone; want of memory may come in place of any
abbrev pub TellsCompiled : Result (Option FixedTimespanSet) SpanFault → Option (Result FixedTimespanSet SpanFault) → Type 0
TellsCompiled (Err NoMemory) due = Unit {0}
TellsCompiled (Err fault) due = due ≡ Some (Err fault)
TellsCompiled (Ok None) due = due ≡ None
TellsCompiled (Ok (Some set)) due = due ≡ Some (Ok set)
