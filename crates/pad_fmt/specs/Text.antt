-- What a text, a character and a truth value are due to give under their options.
use Rattle.std.specs.{Prelude.{ℕ, Bool, List, length, Option, Some, None, min, unwrap_or, if◌then◌else◌, codes, encode_utf8}, Option.{option_map}, Fmt.{char_count, take_chars}}
use Rattle.pad_fmt.specs.{Options.{Options}, Padding.{padded}, declared.options.Alignment.TheVariants.{Left}}

-- the text cut to so many characters as the precision says
abbrev pub cut : Option ℕ → List ℕ → List ℕ
cut None text = text
cut (Some count) text = take_chars count text

-- the text cut to the precision, and padded to the requested number of characters
unfoldable pub shown_text : List ℕ → Options → List ℕ
shown_text text f =
    let body = cut f.precision text in
    padded Left f (char_count body) body

-- the bytes of a text, at most the precision
abbrev pub text_width : List ℕ → Options → ℕ
text_width text f = unwrap_or (option_map (min (length text)) f.precision) (length text)

-- the bytes of a buffer, whatever the precision
abbrev pub buffer_width : List ℕ → Options → ℕ
buffer_width text f = length text

-- the bytes of a character, whatever the precision
abbrev pub char_width : ℕ → Options → ℕ
char_width c f = length (encode_utf8 c)

-- `true` or `false`
abbrev pub truth_text : Bool → List ℕ
truth_text truth = if truth then codes "true" else codes "false"

-- 4 or 5, whatever the precision
abbrev pub truth_width : Bool → Options → ℕ
truth_width truth f = length (truth_text truth)
