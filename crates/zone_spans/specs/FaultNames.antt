-- The names of what keeps a zone from having a schedule.
use Rattle.std.specs.Prelude.{ℕ, List, codes}
use Rattle.zone_spans.specs.declared.fault.SpanFault.{SpanFault, TheVariants.{UnknownRuleset, MissingUntil, YearRange, RuleYears, DayRange, NoStandardSpan, NoMemory}}

abbrev pub fault_name : SpanFault → List ℕ
fault_name UnknownRuleset = codes "UnknownRuleset"
fault_name MissingUntil = codes "MissingUntil"
fault_name YearRange = codes "YearRange"
fault_name RuleYears = codes "RuleYears"
fault_name DayRange = codes "DayRange"
fault_name NoStandardSpan = codes "NoStandardSpan"
fault_name NoMemory = codes "NoMemory"
