use Rattle.std.proofs.Common.{◌≡◌, drop, map}
use Rattle.zone_words.specs.{Commands.{standing_for}, Shown.{row_shown}}
use Rattle.zone_words.proofs.command.standing_for.Given as goal

abbrev pub invariant-loop-row : goal.invariant-loop-row
invariant-loop-row g l = standing_for (map row_shown (drop l.row-index l.rows)) l.word ≡ standing_for (map row_shown l.rows) l.word
