-- The bytes that stand between the parts of a text.
use Rattle.std.specs.Prelude.{ℕ}

abbrev pub plus_sign : ℕ
plus_sign = 43

abbrev pub comma : ℕ
comma = 44

abbrev pub minus_sign : ℕ
minus_sign = 45

abbrev pub dot : ℕ
dot = 46

abbrev pub slash : ℕ
slash = 47

abbrev pub colon : ℕ
colon = 58

abbrev pub less : ℕ
less = 60

abbrev pub greater : ℕ
greater = 62

abbrev pub letter_J : ℕ
letter_J = 74

abbrev pub letter_M : ℕ
letter_M = 77
