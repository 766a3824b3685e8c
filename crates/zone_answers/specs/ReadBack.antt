-- Instants whose texts are read back.
use Rattle.std.specs.Prelude.{ℤ}
use Rattle.civil_base.specs.ReadAs.{IsReadAs}
use Rattle.zone_answers.specs.Due.{text_shown}

-- the text of the instant at the offset is read by `read_zoned` as that instant at that offset, and as nothing else
abbrev pub IsReadBack : ℤ × ℤ → Type 0
IsReadBack shown = IsReadAs (text_shown shown) shown.0 shown.1
