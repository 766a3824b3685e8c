-- The whole numbers among words.
use Rattle.std.specs.{Prelude.{ℕ, Bool, ◌&&◌, List, Option, Some, None, ℤ, bytes_eq, nat_le, unsigned_abs, if◌then◌else◌}, Fmt.{signed_decimal}, Str.Parse.{signed_digits_value}}

-- the word is the decimal text of the number, so it has no plus, no leading zero but for `0` itself, and isn't `-0`; and the
-- number is at most so much in size
abbrev pub is_number : ℕ → ℤ → List ℕ → Bool
is_number most number word = nat_le (unsigned_abs number) most && bytes_eq word (signed_decimal number)

-- the number of at most that size whose decimal text the word is
abbrev pub number_in : ℕ → List ℕ → Option ℤ
number_in most word = let number = signed_digits_value 10 word in if is_number most number word then Some number else None
