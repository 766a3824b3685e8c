use Rattle.std.proofs.Common.{◌≡◌, drop, map}
use Rattle.zone_words.specs.{Options.{is_among}, Shown.{given_shown}}
use Rattle.zone_words.proofs.given.is_among.Given as goal

abbrev pub invariant-loop-other : goal.invariant-loop-other
invariant-loop-other l = is_among (map given_shown (drop l.other-index l.given)) l.name ≡ is_among (map given_shown l.given) l.name
