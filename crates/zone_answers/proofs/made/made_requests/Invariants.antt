use Rattle.std.proofs.Common.{◌≡◌, ◌*◌, ◌≤◌, length}
use Rattle.zone_answers.specs.Made.{made_requests}
use Rattle.zone_answers.proofs.made.made_requests.Given as goal

abbrev pub invariant-loop-before : goal.invariant-loop-before
invariant-loop-before l = record {
  text : l.text.items ≡ made_requests l.before;
  short : length l.text.items ≤ 256 * l.before;
}
