-- Texts of ASCII digits alone are numerals by their value.
use Rattle.std.{proofs.Common.{◌≡◌, true, rules}, proofs.lemmas.Str.Parse.{IsNumeralModel, numerals_by_value}, specs.Char.{is_ascii_digit}, specs.List.{list_all}, specs.Str.Parse.{digits_value}}

-- the test of each byte finds the digits that `parse` takes
pub digits : IsNumeralModel (λ ds. list_all is_ascii_digit ds ≡ true) (digits_value 10)
digits = numerals_by_value _ (search rules)
