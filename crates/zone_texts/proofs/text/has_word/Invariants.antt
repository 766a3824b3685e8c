use Rattle.std.proofs.Common.{◌≡◌, drop}
use Rattle.zone_texts.specs.Same.{has_word}
use Rattle.zone_texts.proofs.text.has_word.Given as goal

abbrev pub invariant-loop-start : goal.invariant-loop-start
invariant-loop-start l = has_word (drop l.start l.text) l.word ≡ has_word l.text l.word
