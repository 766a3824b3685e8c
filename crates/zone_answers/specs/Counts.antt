-- The number of zones that a word asks for.
use Rattle.std.specs.{Prelude.{◌≡◌, ◌≤◌, ℕ, Bool, ◌&&◌, List, Option, Some, None, bytes_eq, decimal, nat_le, if◌then◌else◌}, Str.Parse.{digits_value}}

abbrev pub most_zones : ℕ
most_zones = 1000

-- the text is the decimal text of the number, so it has neither a sign nor a leading zero; the number is from 1 to 1000
abbrev pub is_count : ℕ → List ℕ → Bool
is_count n text = (nat_le 1 n && nat_le n most_zones) && bytes_eq text (decimal n)

-- the number from 1 to 1000 whose decimal text this is
unfoldable pub count_in : List ℕ → Option ℕ
count_in text = if is_count (digits_value 10 text) text then Some (digits_value 10 text) else None

-- the same as a fact
pub record IsCount (n : ℕ) (text : List ℕ) : Type 0 where
  pub least : 1 ≤ n
  pub most : n ≤ most_zones
  pub spelled : text ≡ decimal n
