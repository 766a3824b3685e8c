-- Whole numbers in decimal digits.
use Rattle.std.specs.{Prelude.{ℕ, ℤ, Bool, ◌^◌, ◌&&◌, List, length, Option, Some, None, nat_lt, if◌then◌else◌}, Char.{is_ascii_digit}, List.{list_all}, Str.Parse.{without_leading_sign, digits_value, signed_digits_value}}
use lib.Signed.{mag}

-- one ASCII digit or more, and nothing else
abbrev pub is_numeral : List ℕ → Bool
is_numeral text = nat_lt 0 (length text) && list_all is_ascii_digit text

-- the number that digits write, below a power of two
unfoldable pub value_in : ℕ → List ℕ → Option ℕ
value_in bits digits =
    if nat_lt 0 (length digits) && nat_lt (digits_value 10 digits) (2 ^ bits) then Some (digits_value 10 digits) else None

-- the number that Rust reads in a text as one from -half up to half, without half: an optional sign, then digits
unfoldable pub signed_in : ℕ → List ℕ → Option ℤ
signed_in half text =
    if is_numeral (without_leading_sign text) && nat_lt (mag (signed_digits_value 10 text)) half
    then Some (signed_digits_value 10 text)
    else None
