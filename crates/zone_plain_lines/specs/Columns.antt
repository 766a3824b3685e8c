-- The columns of rules and zones.
use Rattle.std.specs.{Prelude.{ℕ, ◌^◌, Bool, true, false, ◌&&◌, ◌||◌, not, ◌==◌, List, [], ◌∷◌, map, slice_index_or, Option, Some, None, option_map, Result, Ok, Err, ok_or, codes, bytes_eq, int_lt, if◌then◌else◌}, Borrow.{Bor}, Char.{is_ascii_digit}}
use Rattle.std.specs.{List.{list_any}, Option.{option_map_or}}
use Rattle.basics.specs.{Marks.{cut}, Numbers.{signed_in}, Paths.{has_parts}}
use Rattle.zone_table.specs.{Values.{SavingValue, no_saving, one_off, multiple}, declared.year.Year.{Year}, declared.year.Year.TheVariants.{Minimum, Maximum, Number}, Results.{◌>>=◌}}
use Rattle.zone_plain_lines.specs.{Clocks.{clock_spec, saved}, Quotes.{is_white}, Words.{from_word, to_word}, declared.cause.PlainCause.{PlainCause}}
use Rattle.zone_plain_lines.specs.declared.cause.PlainCause.TheVariants as cause

-- the bytes of fields
abbrev pub texts : List (Bor (List ℕ)) → List (List ℕ)
texts fields = map (λ t. t.now) fields

-- the field at a place, from 0 on; nothing past the end
abbrev pub column : List (List ℕ) → ℕ → List ℕ
column fields place = slice_index_or fields place []

-- a whole number of 64 bits
unfoldable pub numbered_year : List ℕ → Result Year PlainCause
numbered_year text = ok_or (option_map Number (signed_in (2 ^ 63) text)) cause.Year

-- a word, or a number
unfoldable pub year_of : List ℕ → Result Year PlainCause
year_of text = option_map_or (λ year. Ok year) (from_word text) (numbered_year text)

abbrev pub to_number : List ℕ → Result (Option Year) PlainCause
to_number text = do
  year ← numbered_year text
  Ok (Some year)

-- a word, of which `only` is no year of its own, or a number
unfoldable pub to_of : List ℕ → Result (Option Year) PlainCause
to_of text = option_map_or (λ last. Ok last) (to_word text) (to_number text)

abbrev pub is_after : Year → Year → Bool
is_after Minimum other = false
is_after (Number first) Minimum = true
is_after (Number first) (Number last) = int_lt last first
is_after (Number first) Maximum = false
is_after Maximum Minimum = true
is_after Maximum (Number last) = true
is_after Maximum Maximum = false

abbrev pub in_order : Year → Option Year → Result (Year × Option Year) PlainCause
in_order from None = Ok (from, None)
in_order from (Some last) = if is_after from last then Err cause.YearOrder else Ok (from, Some last)

unfoldable pub years_of : List ℕ → List ℕ → Result (Year × Option Year) PlainCause
years_of from to = do
  first ← year_of from
  last ← to_of to
  in_order first last

abbrev pub type_of : List ℕ → Result (Unit {0}) PlainCause
type_of text = if bytes_eq text (codes "-") then Ok tt else Err cause.Type

-- a digit, a hyphen or a plus comes first
abbrev pub begins_number : List ℕ → Bool
begins_number [] = true
begins_number (first ∷ rest) = is_ascii_digit first || first == 45 || first == 43

-- white space comes first, as it can within quotes
abbrev pub begins_white : List ℕ → Bool
begins_white [] = false
begins_white (first ∷ rest) = is_white first

unfoldable pub ruleset_name : List ℕ → Result (List ℕ) PlainCause
ruleset_name text = if begins_number text || begins_white text then Err cause.RulesetName else Ok text

-- the name of a zone, or the new name of a link, is the path of a file; a hyphen alone is no name
unfoldable pub zone_name : List ℕ → Result (List ℕ) PlainCause
zone_name text = if bytes_eq text (codes "-") || not (has_parts text) then Err cause.Name else Ok text

-- a hyphen and 0 are nothing, what begins as a number is an amount, and all else names a ruleset
unfoldable pub saving_of : List ℕ → Result SavingValue PlainCause
saving_of text =
    if bytes_eq text (codes "-") then Ok no_saving
    else if begins_number text then (do
      a ← saved text
      Ok (if a.seconds == 0 then no_saving else one_off (clock_spec a)))
    else Ok (multiple text)

abbrev pub has_byte : ℕ → List ℕ → Bool
has_byte byte text = list_any (λ other. other == byte) text

-- `z` comes first, or `s` under a ruleset
abbrev pub is_letter : Bool → List ℕ → Bool
is_letter is_ruled [] = false
is_letter is_ruled (first ∷ rest) = first == 122 || first == 115 && is_ruled

-- what stands before a `%` and after it: `%s` under a ruleset, or `%z`, with no further `%` and no slash
abbrev pub is_filled : Bool → List ℕ → List ℕ → Bool
is_filled is_ruled before after =
    is_letter is_ruled after && not (has_byte 37 after) && not (has_byte 47 before) && not (has_byte 47 after)

-- a hyphen is empty, which no format is
unfoldable pub is_format : Bool → List ℕ → Bool
is_format is_ruled text =
    if bytes_eq text (codes "-") then false
    else option_map_or (λ parts. is_filled is_ruled parts.0 parts.1) (cut 37 text) true

-- a hyphen is no letters
abbrev pub letters_of : List ℕ → Option (List ℕ)
letters_of text = if bytes_eq text (codes "-") then None else Some text
