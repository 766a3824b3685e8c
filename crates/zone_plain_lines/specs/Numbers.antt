-- Numbers between two numbers.
use Rattle.std.specs.Prelude.{ℕ, ◌&&◌, List, Option, Some, None, option_and_then, nat_le, if◌then◌else◌}
use Rattle.basics.specs.Numbers.{is_numeral, value_in}

abbrev pub if_between : ℕ → ℕ → ℕ → Option ℕ
if_between first last number = if nat_le first number && nat_le number last then Some number else None

-- the number from the first to the last of two numbers that ASCII digits write; both are below 256
unfoldable pub number_between : ℕ → ℕ → List ℕ → Option ℕ
number_between first last text = if is_numeral text then option_and_then (if_between first last) (value_in 8 text) else None
