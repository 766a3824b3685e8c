use Rattle.std.proofs.Common.{◌≡◌, ◌+◌, ◌-◌, ◌≤◌, min, length, IfSome, vec_len}
use Rattle.zone_outside.specs.Outside.{KeepsNames, last_count}
use Rattle.zone_outside.proofs.Loops.{HasRead}
use Rattle.zone_outside.proofs.outside.read_all.Given as goal

abbrev pub invariant-reading : goal.invariant-reading
invariant-reading g l = let S = g.S.Source in record {
  piece : length l.piece ≡ 4096;
  left : IfSome (S.left l.fn.source) (HasRead l.bytes.items (S.left l.source));
  given_least : min (S.given l.fn.source + vec_len l.bytes) last_count ≤ S.given l.source;
  given_most : S.given l.source ≤ S.given l.fn.source + vec_len l.bytes;
  names : KeepsNames (S.told l.fn.source) (S.told l.source) (S.open_to l.fn.source) (S.open_to l.source);
  faults : S.faults l.fn.source ≤ S.faults l.source;
}

abbrev pub decreases-reading : goal.decreases-reading
decreases-reading g l = 16777217 - vec_len l.bytes
