use Rattle.std.proofs.Common.{◌≡◌, ◌≤◌, [], length, reverse, take, drop, All}
use Rattle.zone_spans.specs.{Bounds.{IsSmallEntry}, Collapse.{kept_of}}
use Rattle.zone_spans.proofs.span.keep_kept.Given as goal

abbrev pub invariant-loop-i : goal.invariant-loop-i
invariant-loop-i l = record {
  len : length l.rest ≡ length l.initial.rest;
  count : l.kept ≤ l.i;
  bounded : All IsSmallEntry l.rest;
  kept : kept_of (reverse (take l.kept l.rest)) (drop l.i l.rest) ≡ kept_of [] l.initial.rest;
}
