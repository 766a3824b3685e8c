-- How many digits there are.
use Rattle.std.specs.Prelude.{ℕ}
use Rattle.civil_items.specs.declared.digits.Digits.{Digits}

abbrev pub digit_count : Digits → ℕ
digit_count digits = digits.number
