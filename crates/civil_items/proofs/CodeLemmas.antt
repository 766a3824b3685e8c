-- The bytes of a configuration are those of its number.
use Rattle.std.{proofs.Common.{arith, ◌≡◌, refl, ℕ, ◌*◌, ◌/◌, ◌%◌, ◌^◌, ◌<◌, List, [], ◌∷◌, ◌++◌, get_or, ◌∙◌, ap, lit<, Bool, true, false, Option, Some, None, zero, suc}, specs.Int.{w64, w128, to_be_bytes, from_be_bytes}, proofs.lemmas.Nat.{be_bytes_8}}
use Rattle.civil_items.specs.{declared.digits.Digits.{Digits}, Codes.{components_place, kind_place, unit_place, precision_place, flag, digits_of, digits_byte, code_bytes, code}, declared.config.Config.{Config}}
use Rattle.civil_items.specs.declared.iso8601.{FormattedComponents.{FormattedComponents}, FormattedComponents.TheVariants.{None as Nothing, Date, Time, Offset, DateTime, DateTimeOffset, TimeOffset}, DateKind.{DateKind}}
use Rattle.civil_items.specs.declared.iso8601.{DateKind.TheVariants.{Calendar, Week, Ordinal}, TimePrecision.{TimePrecision}, TimePrecision.TheVariants.{Hour, Minute, Second}, OffsetPrecision.{OffsetPrecision}}
use Rattle.civil_items.specs.declared.iso8601.OffsetPrecision.TheVariants.{Hour as ToHours, Minute as ToMinutes}

-- each is a byte
abbrev AreBytes : List ℕ → Type 0
AreBytes [] = Unit {0}
AreBytes (b ∷ bs) = (b < 256) × AreBytes bs

byte_in : (bs : List ℕ) → AreBytes bs → (i : ℕ) → get_or bs i 0 < 256
byte_in [] h i = lit< tt
byte_in (b ∷ bs) h zero = h.0
byte_in (b ∷ bs) h (suc i) = byte_in bs h.1 i

components_byte : (k : FormattedComponents) → components_place k < 256
components_byte Nothing = lit< tt
components_byte Date = lit< tt
components_byte Time = lit< tt
components_byte Offset = lit< tt
components_byte DateTime = lit< tt
components_byte DateTimeOffset = lit< tt
components_byte TimeOffset = lit< tt

kind_byte : (k : DateKind) → kind_place k < 256
kind_byte Calendar = lit< tt
kind_byte Week = lit< tt
kind_byte Ordinal = lit< tt

unit_byte : (p : TimePrecision) → unit_place p < 256
unit_byte (Hour _) = lit< tt
unit_byte (Minute _) = lit< tt
unit_byte (Second _) = lit< tt

precision_byte : (p : OffsetPrecision) → precision_place p < 256
precision_byte ToHours = lit< tt
precision_byte ToMinutes = lit< tt

flag_byte : (b : Bool) → flag b < 256
flag_byte true = lit< tt
flag_byte false = lit< tt

digits_small : (d : Option Digits) → digits_byte d < 256
digits_small None = lit< tt
digits_small (Some digits) = digits.in_range.greatest

-- the bytes of a number of 64 bits, with eight bytes of 0 behind it
moved : (h : ℕ) → to_be_bytes w128 (h * 256 ^ 8) ≡ to_be_bytes w64 h ++ 0 ∷ 0 ∷ 0 ∷ 0 ∷ 0 ∷ 0 ∷ 0 ∷ 0 ∷ []
moved h =
    let e15 : h * 256 ^ 8 / 256 ^ 15 % 256 ≡ h / 256 ^ 7 % 256 = omega arith in
    let e14 : h * 256 ^ 8 / 256 ^ 14 % 256 ≡ h / 256 ^ 6 % 256 = omega arith in
    let e13 : h * 256 ^ 8 / 256 ^ 13 % 256 ≡ h / 256 ^ 5 % 256 = omega arith in
    let e12 : h * 256 ^ 8 / 256 ^ 12 % 256 ≡ h / 256 ^ 4 % 256 = omega arith in
    let e11 : h * 256 ^ 8 / 256 ^ 11 % 256 ≡ h / 256 ^ 3 % 256 = omega arith in
    let e10 : h * 256 ^ 8 / 256 ^ 10 % 256 ≡ h / 256 ^ 2 % 256 = omega arith in
    let e9 : h * 256 ^ 8 / 256 ^ 9 % 256 ≡ h / 256 ^ 1 % 256 = omega arith in
    let e8 : h * 256 ^ 8 / 256 ^ 8 % 256 ≡ h % 256 = omega arith in
    let e7 : h * 256 ^ 8 / 256 ^ 7 % 256 ≡ 0 = omega arith in
    let e6 : h * 256 ^ 8 / 256 ^ 6 % 256 ≡ 0 = omega arith in
    let e5 : h * 256 ^ 8 / 256 ^ 5 % 256 ≡ 0 = omega arith in
    let e4 : h * 256 ^ 8 / 256 ^ 4 % 256 ≡ 0 = omega arith in
    let e3 : h * 256 ^ 8 / 256 ^ 3 % 256 ≡ 0 = omega arith in
    let e2 : h * 256 ^ 8 / 256 ^ 2 % 256 ≡ 0 = omega arith in
    let e1 : h * 256 ^ 8 / 256 ^ 1 % 256 ≡ 0 = omega arith in
    let e0 : h * 256 ^ 8 % 256 ≡ 0 = omega arith in
    λ i. e15 i ∷ e14 i ∷ e13 i ∷ e12 i ∷ e11 i ∷ e10 i ∷ e9 i ∷ e8 i ∷ e7 i ∷ e6 i ∷ e5 i ∷ e4 i ∷ e3 i ∷ e2 i ∷ e1 i ∷ e0 i ∷ []

-- seven bytes and nine of 0 are read back from their number
seven_bytes : (a b c d e f g : ℕ) → AreBytes (a ∷ b ∷ c ∷ d ∷ e ∷ f ∷ g ∷ 0 ∷ [])
    → to_be_bytes w128 (from_be_bytes w128 (a ∷ b ∷ c ∷ d ∷ e ∷ f ∷ g ∷ 0 ∷ 0 ∷ 0 ∷ 0 ∷ 0 ∷ 0 ∷ 0 ∷ 0 ∷ 0 ∷ []))
    ≡ a ∷ b ∷ c ∷ d ∷ e ∷ f ∷ g ∷ 0 ∷ 0 ∷ 0 ∷ 0 ∷ 0 ∷ 0 ∷ 0 ∷ 0 ∷ 0 ∷ []
seven_bytes a b c d e f g small =
    let front : List ℕ = a ∷ b ∷ c ∷ d ∷ e ∷ f ∷ g ∷ 0 ∷ [] in
    let number : from_be_bytes w128
    (a ∷ b ∷ c ∷ d ∷ e ∷ f ∷ g ∷ 0 ∷ 0 ∷ 0 ∷ 0 ∷ 0 ∷ 0 ∷ 0 ∷ 0 ∷ 0 ∷ []) ≡ from_be_bytes w64 front * 256 ^ 8 = omega arith in
    ap (to_be_bytes w128) number ∙ moved (from_be_bytes w64 front)
    ∙ ap (λ bytes. bytes ++ 0 ∷ 0 ∷ 0 ∷ 0 ∷ 0 ∷ 0 ∷ 0 ∷ 0 ∷ []) (be_bytes_8 front (from_be_bytes w64 front) refl (byte_in front small) refl)

pub bytes_of_code : (config : Config) → to_be_bytes w128 (code config) ≡ code_bytes config
unfolding code
bytes_of_code config = seven_bytes (components_place config.formatted_components) (flag config.use_separators)
    (flag config.year_is_six_digits) (kind_place config.date_kind) (unit_place config.time_precision)
    (digits_byte (digits_of config.time_precision)) (precision_place config.offset_precision) (
      components_byte config.formatted_components,
      (
        flag_byte config.use_separators,
        (
          flag_byte config.year_is_six_digits,
          (
            kind_byte config.date_kind,
            (
              unit_byte config.time_precision,
              (
                digits_small (digits_of config.time_precision),
                (precision_byte config.offset_precision, (lit< tt, tt)),
              ),
            ),
          ),
        ),
      ),
    )
