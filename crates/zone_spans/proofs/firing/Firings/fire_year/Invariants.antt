use Rattle.std.proofs.Common.{length, ◌-◌}
use Rattle.zone_spans.{specs.Fires.{AreSmall, after}, specs.Firings.{year_firings}, proofs.FrontLemmas.{Owes}}
use Rattle.zone_spans.proofs.firing.Firings.fire_year.Given as goal

abbrev pub invariant-loop-i : goal.invariant-loop-i
invariant-loop-i l = record {
  owes : Owes l.year l.line.info.offset l.end (length l.line.rules - l.i) l.self.fired.items l.self.saving l.fronts
      (after l.fn.self (year_firings l.year l.line.info.offset l.end l.fn.self.saving l.line.rules));
  small : AreSmall l.self;
}
