-- The pieces at the front of a text, each with what follows it.
use Rattle.std.specs.{Prelude.{ℕ, ◌+◌, ◌-◌, ◌*◌, ◌==◌, Bool, true, false, List, [], ◌∷◌, drop, take_while, Option, Some, None, option_map, option_and_then, if◌then◌else◌}, Char.{is_ascii_digit}, List.{prefix_len}, Borrow.{Bor}}
use Rattle.basics.specs.Marks.{after_mark}
use Rattle.zone_words.specs.{Numbers.{is_separator, is_utc}, declared.form.WrittenDate.{WrittenDate}, declared.form.WrittenOffset.{WrittenOffset}}

infixl 10 ◌>>=◌
abbrev pub ◌>>=◌ : {A B : Type 0} → Option A → (A → Option B) → Option B
o >>= f = option_and_then f o

-- a value and the rest, as the code gives them
abbrev pub read_as : {V : Type 0} → Option (V × Bor (List ℕ)) → Option (V × List ℕ)
read_as result = option_map (λ x. (x.0, x.1.now)) result

unfoldable pub digit_at : List ℕ → Option (ℕ × List ℕ)
digit_at [] = None
digit_at (c ∷ rest) = if is_ascii_digit c then Some (c - 48, rest) else None

unfoldable pub two_at : List ℕ → Option (ℕ × List ℕ)
two_at text = do
  tens ← digit_at text
  ones ← digit_at tens.1
  Some (10 * tens.0 + ones.0, ones.1)

unfoldable pub four_at : List ℕ → Option (ℕ × List ℕ)
four_at text = do
  front ← two_at text
  back ← two_at front.1
  Some (100 * front.0 + back.0, back.1)

-- two digits behind a byte
abbrev pub two_after : ℕ → List ℕ → Option (ℕ × List ℕ)
two_after mark text = do
  rest ← after_mark mark text
  two_at rest

-- `YYYY-MM-DD`
unfoldable pub date_at : List ℕ → Option (WrittenDate × List ℕ)
date_at text = do
  year ← four_at text
  first ← after_mark 45 year.1
  month ← two_at first
  second ← after_mark 45 month.1
  day ← two_at second
  Some (record { year = year.0; month = month.0; day = day.0 }, day.1)

abbrev pub separator_at : List ℕ → Option (List ℕ)
separator_at [] = None
separator_at (c ∷ rest) = if is_separator c then Some rest else None

-- `hh:mm`
unfoldable pub minute_at : List ℕ → Option ((ℕ × ℕ) × List ℕ)
minute_at text = do
  hour ← two_at text
  second ← after_mark 58 hour.1
  minute ← two_at second
  Some ((hour.0, minute.0), minute.1)

-- `:ss`
unfoldable pub second_at : List ℕ → Option (ℕ × List ℕ)
second_at text = do
  rest ← after_mark 58 text
  two_at rest

-- the longest run of digits, and what follows it
abbrev pub run_of : List ℕ → List ℕ
run_of text = take_while is_ascii_digit text

abbrev pub after_run : List ℕ → List ℕ
after_run text = drop (prefix_len is_ascii_digit text) text

-- the numbers of an offset behind its sign
abbrev pub sized_at : Bool → List ℕ → Option (WrittenOffset × List ℕ)
sized_at west text = option_map (λ x. (record { west = west; hours = x.0.0; minutes = x.0.1 }, x.1)) (minute_at text)

-- `Z`, `z`, `+hh:mm` or `-hh:mm`
unfoldable pub offset_at : List ℕ → Option (WrittenOffset × List ℕ)
offset_at [] = None
offset_at (c ∷ rest) =
    if is_utc c then Some (record { west = false; hours = 0; minutes = 0 }, rest)
    else (if c == 43 then sized_at false rest else (if c == 45 then sized_at true rest else None))
