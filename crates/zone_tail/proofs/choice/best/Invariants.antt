use Rattle.tz_lookup.specs.Sets.{schedule_of}
use Rattle.zone_tail.specs.Choices.{IsBest}
use Rattle.zone_tail.proofs.choice.best.Given as goal

abbrev pub invariant-loop-i : goal.invariant-loop-i
invariant-loop-i g l = IsBest l.candidates (schedule_of (g.S.SpanTable.seen l.set)) l.last l.i l.best l.from
