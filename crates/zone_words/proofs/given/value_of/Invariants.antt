use Rattle.std.proofs.Common.{◌≡◌, drop, map}
use Rattle.zone_words.specs.{Options.{value_of}, Shown.{given_shown}}
use Rattle.zone_words.proofs.given.value_of.Given as goal

abbrev pub invariant-loop-option : goal.invariant-loop-option
invariant-loop-option l = value_of (map given_shown (drop l.option-index l.given)) l.name ≡ value_of (map given_shown l.given) l.name
