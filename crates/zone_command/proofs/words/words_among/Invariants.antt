use Rattle.std.{proofs.Common.{◌≡◌, [], drop, map}, specs.Prelude.{string_bytes}}
use Rattle.zone_command.specs.Requests.{words_among}
use Rattle.zone_command.proofs.words.words_among.Given as goal
use Rattle.zone_words.specs.Shown.{word_shown}

-- what is left, behind what was found, is all
abbrev pub invariant-loop-piece : goal.invariant-loop-piece
invariant-loop-piece l =
    words_among (map string_bytes l.words.items) (map word_shown (drop l.piece-index l.pieces)) ≡ words_among [] (map word_shown l.fn.pieces)
