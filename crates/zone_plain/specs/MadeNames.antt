-- The names of the rulesets that are made.
use Rattle.std.specs.Prelude.{ℕ, ◌+◌, ◌%◌, List, ◌++◌, map, decimal}

-- the byte of a digit as a letter from a to j
abbrev pub letter : ℕ → ℕ
letter digit = 97 + digit % 16

-- a mark, and a number in those letters
unfoldable pub made_name : List ℕ → ℕ → List ℕ
made_name mark number = mark ++ map letter (decimal number)
