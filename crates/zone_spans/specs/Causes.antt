-- Faults beside what makes them.
use Rattle.std.specs.Prelude.{◌≡◌, Bool, true, Result, Err}
use Rattle.zone_spans.specs.declared.{fault.SpanFault.{SpanFault}, fault.SpanFault.TheVariants.{UnknownRuleset, NoMemory}, span.FixedTimespanSet.{FixedTimespanSet}}

-- want of memory, or a ruleset that is not there
abbrev pub IsUnknown : SpanFault → Bool → Type 0
IsUnknown NoMemory met = Unit {0}
IsUnknown UnknownRuleset met = met ≡ true
IsUnknown _ met = ⊥

-- want of memory, or the fault that is due
abbrev pub IsDue : SpanFault → Result FixedTimespanSet SpanFault → Type 0
IsDue NoMemory due = Unit {0}
IsDue fault due = due ≡ Err fault
