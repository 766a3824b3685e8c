use Rattle.std.proofs.Common.{◌≡◌, drop, map, string_bytes}
use Rattle.zone_words.specs.{Shown.{sorted_shown}, Sorted.{sorted, sorted_from}}
use Rattle.zone_words.proofs.sorted.sort_words.Given as goal

-- what is left, behind what was sorted, is what all words are sorted to
abbrev pub invariant-loop-word : goal.invariant-loop-word
invariant-loop-word l = sorted_from (sorted_shown l.sorted) (map string_bytes (drop l.word-index l.words)) ≡ sorted (map string_bytes l.fn.words)
