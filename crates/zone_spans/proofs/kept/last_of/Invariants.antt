use Rattle.std.{proofs.Common.{◌≡◌, take}, specs.List.{last_or}}
use Rattle.zone_spans.proofs.kept.last_of.Given as goal

abbrev pub invariant-loop-firing : goal.invariant-loop-firing
invariant-loop-firing l = l.last ≡ last_or l.fn.before (take l.firing-index l.fired)
