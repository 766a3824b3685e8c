-- The line of a day.
use Rattle.std.specs.Prelude.{ℕ, List, ◌++◌, Option, Some, None, ℤ, codes}
use Rattle.basics.specs.Dates.{year_of}
use Rattle.civil_base.specs.Layout.{date_digits, year_sign, zoned_text}

-- the date of a day, as a local text begins with it
abbrev pub date_text : ℤ → List ℕ
date_text day = year_sign (year_of day) ++ date_digits day

-- the zoned text of its ring, or its date and that there is none
abbrev pub ring_line : ℤ × Option (ℤ × ℤ) → List ℕ
ring_line (day, Some ring) = zoned_text ring.0 ring.1
ring_line (day, None) = date_text day ++ codes " none"
