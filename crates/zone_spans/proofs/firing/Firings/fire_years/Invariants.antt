use Rattle.std.proofs.Common.{◌≡◌, Option, ℤ}
use Rattle.zone_spans.specs.{Fires.{AreSmall}, Firings.{firings_of_years}, Stands.{StandsFor}}
use Rattle.zone_spans.proofs.firing.Firings.fire_years.Given as goal

abbrev pub invariant-loop-i : goal.invariant-loop-i
invariant-loop-i l = record {
  stands : (start : Option ℤ) → StandsFor start l.fn.self.fired.items (firings_of_years l.line.info.offset l.line.end l.line.rules l.first).0
      → StandsFor start l.self.fired.items (firings_of_years l.line.info.offset l.line.end l.line.rules l.i).0;
  saving : l.self.saving ≡ (firings_of_years l.line.info.offset l.line.end l.line.rules l.i).1;
  small : AreSmall l.self;
}
