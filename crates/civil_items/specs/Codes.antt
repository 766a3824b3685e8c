-- The number that stands for a configuration.
use Rattle.std.specs.{Prelude.{◌≡◌, ℕ, Bool, true, false, List, [], ◌∷◌, Option, Some, None, IfSome}, Int.{w128, from_be_bytes}}
use denote.Enum.Declared.{tag_of as place_among}
use Rattle.civil_items.specs.{Digits.{digit_count}, declared.digits.Digits.{Digits}, declared.config.Config.{Config}}
use Rattle.civil_items.specs.contracts.iso8601.{FormattedComponents.{the_type as all_components}, DateKind.{the_type as kinds}, TimePrecision.{the_type as units}, OffsetPrecision.{the_type as precisions}}
use Rattle.civil_items.specs.declared.iso8601.{FormattedComponents.{FormattedComponents}, DateKind.{DateKind}, TimePrecision.{TimePrecision}, TimePrecision.TheVariants.{Hour, Minute, Second}, OffsetPrecision.{OffsetPrecision}}

-- the places of the variants, from 0
abbrev pub components_place : FormattedComponents → ℕ
components_place components = place_among all_components components

abbrev pub kind_place : DateKind → ℕ
kind_place kind = place_among kinds kind

abbrev pub unit_place : TimePrecision → ℕ
unit_place precision = place_among units precision

abbrev pub precision_place : OffsetPrecision → ℕ
precision_place precision = place_among precisions precision

abbrev pub flag : Bool → ℕ
flag false = 0
flag true = 1

-- the decimal digits of the fraction, if there is one
abbrev pub digits_of : TimePrecision → Option Digits
digits_of (Hour digits) = digits
digits_of (Minute digits) = digits
digits_of (Second digits) = digits

abbrev pub digits_byte : Option Digits → ℕ
digits_byte None = 0
digits_byte (Some digits) = digit_count digits

-- sixteen bytes
abbrev pub code_bytes : Config → List ℕ
code_bytes config =
    components_place config.formatted_components
    ∷ flag config.use_separators
    ∷ flag config.year_is_six_digits
    ∷ kind_place config.date_kind
    ∷ unit_place config.time_precision
    ∷ digits_byte (digits_of config.time_precision)
    ∷ precision_place config.offset_precision
    ∷ 0 ∷ 0 ∷ 0 ∷ 0 ∷ 0 ∷ 0 ∷ 0 ∷ 0 ∷ 0 ∷ []

-- the number of these bytes, the first of them the highest
unfoldable pub code : Config → ℕ
code config = from_be_bytes w128 (code_bytes config)

-- what a number is decoded to: the configuration whose code it is, or nothing where it is the code of none
pub record Decodes (encoded : ℕ) (answer : Option Config) : Type 0 where
  pub only_codes : IfSome answer (λ config. code config ≡ encoded)
  pub every_code : (config : Config) → code config ≡ encoded → answer ≡ Some config
