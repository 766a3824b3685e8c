use Rattle.std.proofs.Common.{◌≡◌, map, take}
use Rattle.zone_plain.proofs.whole.slices.Given as goal

-- the lines so far
abbrev pub invariant-loop-place : goal.invariant-loop-place
invariant-loop-place l = map (λ line. line.now) l.slices.items ≡ take l.place l.fn.lines
