use Rattle.std.proofs.Common.{List}
use denote.Text.{Utf8}
use denote.Shadow.{shadow}
use Rattle.zone_table.specs.Values.{LineValue}
use Rattle.zone_plain.specs.Stands.{names_of, IsDeclared, IsKnown, LeadsTo}
use Rattle.zone_plain.proofs.links.keep.Given as goal

abbrev pub invariant-loop-step : goal.invariant-loop-step
invariant-loop-step l =
    shadow (Utf8 l.at)
    × ((values : List LineValue) → IsDeclared l.fn.declared values → IsKnown (names_of l.fn.declared) values l.fn.known
    → LeadsTo (names_of l.fn.declared) values l.fn.name l.fn.place
    → IsKnown (names_of l.fn.declared) values l.known × LeadsTo (names_of l.fn.declared) values l.at l.fn.place)
