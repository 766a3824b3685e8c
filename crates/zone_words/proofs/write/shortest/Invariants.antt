use Rattle.std.proofs.Common.{◌≡◌, ◌≤◌, take}
use Rattle.zone_words.specs.Written.{shortest}
use Rattle.zone_words.proofs.write.shortest.Given as goal

abbrev pub invariant-loop-place : goal.invariant-loop-place
invariant-loop-place l = record {
  so_far : shortest (take l.place l.digits) ≡ take l.kept l.digits;
  bound : l.kept ≤ l.place;
}
