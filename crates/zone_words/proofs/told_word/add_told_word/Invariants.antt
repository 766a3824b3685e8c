use Rattle.std.{proofs.Common.{◌≡◌, ◌++◌, take}, specs.List.{flat_map}}
use Rattle.zone_words.specs.ToldWords.{told_byte}
use Rattle.zone_words.proofs.told_word.add_told_word.Given as goal

abbrev pub invariant-loop-byte : goal.invariant-loop-byte
invariant-loop-byte l = l.into.items ≡ l.fn.into.items ++ flat_map told_byte (take l.byte-index l.byte-items)
