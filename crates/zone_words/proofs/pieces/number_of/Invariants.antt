use Rattle.std.proofs.Common.{◌≡◌, ◌≤◌, ◌^◌, min, drop}
use Rattle.zone_words.specs.Numbers.{number_after}
use Rattle.zone_words.proofs.pieces.number_of.Given as goal

abbrev pub invariant-loop-digit : goal.invariant-loop-digit
invariant-loop-digit l = record {
  rest : min (number_after l.number (drop l.digit-index l.digits)) (10 ^ 25) ≡ min (number_after 0 l.digits) (10 ^ 25);
  bound : l.number ≤ 10 ^ 25;
}
