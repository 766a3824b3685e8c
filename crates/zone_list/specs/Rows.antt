-- The rows of entries, in columns.
use Rattle.std.specs.{Prelude.{ℕ, ◌-◌, max, List, [], ◌∷◌, ◌++◌, map, codes}, Fmt.{char_count, signed_decimal}, List.{repeat}}
use Rattle.civil_base.specs.{Instants.{nanos_of}, Layout.{zoned_text}}
use Rattle.zone_spans.specs.Entries.{Entry, total}

-- so many spaces
abbrev pub spaces : ℕ → List ℕ
spaces count = repeat count (codes " ")

-- spaces in front of the text, up to so many characters; or after it
abbrev pub on_the_right : ℕ → List ℕ → List ℕ
on_the_right width text = spaces (width - char_count text) ++ text

abbrev pub on_the_left : ℕ → List ℕ → List ℕ
on_the_left width text = text ++ spaces (width - char_count text)

-- an entry's time in decimal, its abbreviation, and its time as a zoned text at its own total
abbrev pub time_of : Entry → List ℕ
time_of entry = signed_decimal entry.0

abbrev pub name_of : Entry → List ℕ
name_of entry = entry.1.name

abbrev pub shown_of : Entry → List ℕ
shown_of entry = zoned_text (nanos_of entry.0) (total entry.1)

-- the row of an entry where times are so wide, and names are
unfoldable pub row : ℕ → ℕ → Entry → List ℕ
row times names entry =
    on_the_right times (time_of entry) ++ codes "  " ++ on_the_left names (name_of entry) ++ codes "  " ++ shown_of entry

-- the greatest number of characters
abbrev pub widest : List (List ℕ) → ℕ
widest [] = 0
widest (text ∷ texts) = max (char_count text) (widest texts)

-- the rows of these entries, each column as wide as its widest text
unfoldable pub rows : List Entry → List (List ℕ)
rows entries = map (row (widest (map time_of entries)) (widest (map name_of entries))) entries
