use Rattle.std.proofs.Common.{List}
use denote.Text.{Utf8}
use denote.Shadow.{shadow}
use Rattle.zone_table.specs.Values.{LineValue}
use Rattle.zone_plain.{specs.Stands.{IsDeclared}, proofs.LeadLemmas.{AreSteps}}
use Rattle.zone_plain.proofs.links.zone_place.Given as goal

abbrev pub invariant-loop-step : goal.invariant-loop-step
invariant-loop-step l =
    shadow (Utf8 l.at) × ((values : List LineValue) → IsDeclared l.fn.declared values → AreSteps values l.fn.name l.at l.step)
