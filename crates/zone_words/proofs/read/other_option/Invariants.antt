use Rattle.std.proofs.Common.{◌≡◌, drop, map}
use Rattle.zone_words.specs.{Shown.{given_shown}, Words.{other_option}}
use Rattle.zone_words.proofs.read.other_option.Given as goal

abbrev pub invariant-loop-option : goal.invariant-loop-option
invariant-loop-option l = other_option l.command (map given_shown (drop l.option-index l.given)) ≡ other_option l.command (map given_shown l.given)
