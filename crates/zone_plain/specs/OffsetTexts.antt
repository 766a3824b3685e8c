-- The text that stands for `%z`: a total, by its hours, and by minutes and seconds as far as they are needed.
use Rattle.std.specs.Prelude.{ℕ, ◌/◌, ◌%◌, ◌==◌, ℤ, pos, Bool, nat_lt, int_lt, unsigned_abs, List, [], ◌∷◌, ◌++◌, if◌then◌else◌}
use Rattle.zone_plain_lines.specs.PlainTexts.{two_digits}

-- `ss`, or nothing at 0
abbrev pub seconds_text : ℕ → List ℕ
seconds_text seconds = if seconds == 0 then [] else two_digits seconds

-- `mm` or `mmss`, or nothing at 0
abbrev pub minutes_text : ℕ → List ℕ
minutes_text seconds = if seconds == 0 then [] else two_digits (seconds / 60) ++ seconds_text (seconds % 60)

-- `+` or `-`
abbrev pub sign : ℤ → ℕ
sign total = if int_lt total (pos 0) then 45 else 43

-- `+hh`, `+hhmm` or `+hhmmss` of a total in seconds
unfoldable pub offset_text : ℤ → List ℕ
offset_text total = (sign total ∷ two_digits (unsigned_abs total / 3600)) ++ minutes_text (unsigned_abs total % 3600)

-- a total of 100 hours or more has no such text
abbrev pub has_text : ℤ → Bool
has_text total = nat_lt (unsigned_abs total) 360000
