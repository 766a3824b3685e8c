-- The fields of a line: parted by white space, without a comment and without quotes.
use Rattle.std.specs.{Prelude.{ℕ, List, [], ◌∷◌, Bool, true, false, ◌||◌, ◌&&◌, not, ◌==◌, length, filter, flat_map, if◌then◌else◌, Result, Ok, Err, nat_lt}, List.{slice_split, list_any}}
use Rattle.zone_plain_lines.specs.declared.{quotes.Place.{Place}, quotes.Place.TheVariants.{Outside, Opened, Within}, cause.PlainCause.{PlainCause}, cause.PlainCause.TheVariants.{Quotes}}

-- space, tab, form feed, carriage return, vertical tab
abbrev pub is_white : ℕ → Bool
is_white c = c == 32 || c == 9 || c == 12 || c == 13 || c == 11

abbrev pub is_outside : Place → Bool
is_outside Outside = true
is_outside Opened = false
is_outside Within = false

-- where the byte after this one stands
abbrev pub after : Place → ℕ → Place
after Outside c = if c == 34 then Opened else Outside
after Opened c = if c == 34 then Outside else Within
after Within c = if c == 34 then Outside else Within

-- a sharp outside quotes
abbrev pub begins_comment : Place → ℕ → Bool
begins_comment place c = is_outside place && c == 35

abbrev pub closes_nothing : Place → ℕ → Bool
closes_nothing Outside c = false
closes_nothing Opened c = c == 34
closes_nothing Within c = false

abbrev pub is_gap : Place → ℕ → Bool
is_gap place c = is_outside place && is_white c

-- a byte, and where it stands
pub record Mark : Type 0 where
  pub place : Place
  pub byte : ℕ

abbrev pub mark : Place → ℕ → Mark
mark place byte = record { place = place; byte = byte }

-- the bytes of a line up to its comment, the first of which stands there
abbrev pub kept : Place → List ℕ → List Mark
kept place [] = []
kept place (c ∷ cs) = if begins_comment place c then [] else mark place c ∷ kept (after place c) cs

-- a gap is a line feed, which no line has in it; quotes go
abbrev pub laid : Mark → List ℕ
laid m = if is_gap m.place m.byte then 10 ∷ [] else if m.byte == 34 then [] else m.byte ∷ []

unfoldable pub laid_out : List ℕ → List ℕ
laid_out line = flat_map laid (kept Outside line)

abbrev pub is_line_feed : ℕ → Bool
is_line_feed c = c == 10

abbrev pub is_text : List ℕ → Bool
is_text field = nat_lt 0 (length field)

-- the pieces between line feeds, but for the empty ones
unfoldable pub pieces : List ℕ → List (List ℕ)
pieces text = filter is_text (slice_split is_line_feed text)

-- where what follows the kept bytes stands
abbrev pub place_after : Place → List Mark → Place
place_after place [] = place
place_after place (m ∷ ms) = place_after (after m.place m.byte) ms

abbrev pub is_mark_of_nothing : Mark → Bool
is_mark_of_nothing m = closes_nothing m.place m.byte

-- quotes are left open, or hold nothing
unfoldable pub has_bad_quotes : List Mark → Bool
has_bad_quotes marks = list_any is_mark_of_nothing marks || not (is_outside (place_after Outside marks))

-- the fields of a line
unfoldable pub fields : List ℕ → Result (List (List ℕ)) PlainCause
fields line = if has_bad_quotes (kept Outside line) then Err Quotes else Ok (pieces (laid_out line))
