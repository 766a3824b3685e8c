use Rattle.std.proofs.Common.{◌≡◌, ◌+◌, ◌*◌, ◌≤◌, length}
use Rattle.zone_answers.specs.Made.{made_source}
use Rattle.zone_answers.proofs.made.made_source.Given as goal

abbrev pub invariant-loop-before : goal.invariant-loop-before
invariant-loop-before l = record {
  text : l.text.items ≡ made_source l.before;
  short : length l.text.items ≤ 128 * (l.before + 1);
}
