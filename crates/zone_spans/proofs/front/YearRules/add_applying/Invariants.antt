use Rattle.std.proofs.Common.{◌≡◌, take}
use Rattle.zone_spans.specs.{Fronts.{by_mark}, Placed.{placed_from}}
use Rattle.zone_spans.proofs.front.YearRules.add_applying.Given as goal

abbrev pub invariant-loop-place : goal.invariant-loop-place
invariant-loop-place l = l.self ≡ by_mark (placed_from l.year 0 (take l.place l.rules))
