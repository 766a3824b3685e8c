use Rattle.std.proofs.Common.{◌≡◌, [], drop, map}
use Rattle.zone_words.specs.{TimesShown.{asked}, Shown.{word_shown}, Values.{instants_in}}
use Rattle.zone_words.proofs.values.instants_in.Given as goal

-- what is left, behind what was found, is what all words ask
abbrev pub invariant-loop-word : goal.invariant-loop-word
invariant-loop-word l =
    instants_in (map asked l.found.items) (map word_shown (drop l.word-index l.words)) ≡ instants_in [] (map word_shown l.fn.words)
