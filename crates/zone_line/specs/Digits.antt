-- Numbers of one or two digits.
use Rattle.std.specs.{Prelude.{ℕ, ◌+◌, ◌-◌, ◌*◌, List, [], ◌∷◌, Option, Some, None, option_and_then, option_map, if◌then◌else◌}, Char.{is_ascii_digit}}

-- the value of an ASCII digit
abbrev pub digit_of : ℕ → Option ℕ
digit_of c = if is_ascii_digit c then Some (c - 48) else None

-- the value of one or two ASCII digits
unfoldable pub two_digits : List ℕ → Option ℕ
two_digits (ones ∷ []) = digit_of ones
two_digits (tens ∷ ones ∷ []) = option_and_then (λ t. option_map (λ o. 10 * t + o) (digit_of ones)) (digit_of tens)
two_digits _ = None
