-- What `parse` reads of a number is what the definitions say.
use Rattle.std.proofs.{Common.{◌≡◌, ℕ, ◌<◌, ◌^◌, ◌&&◌, List, length, true, cond, Some, None, refl, sym, Result, Ok, Err, ℤ, nat_lt, lt-ltb, ltb-true}, lemmas.Bool.{false_from_ne_true, and_parts, cond-false}, lemmas.Str.Parse.{parse_digits}}
use Rattle.std.specs.{Result.{result_ok, OkIff}, Char.{is_ascii_digit}, List.{list_all}, Str.Parse.{ParsesSigned, ParsesUnsigned, digits_value, without_leading_sign}}
use mir.Syntax.{Width}
use mir.Val.{hbits}
use Rattle.basics.specs.{NumberLaws.{digits}, Numbers.{is_numeral, signed_in, value_in}}

-- `parse` at any width reads the number, or fails where there is none
pub signed_read : {E : Type 0} (w : Width) (text : List ℕ) (r : Result ℤ E) → ParsesSigned w 10 text r →
    result_ok r ≡ signed_in (2 ^ hbits w) text
unfolding signed_in
signed_read w text (Ok z) h = rw (h.1, lt-ltb _ _ h.0.0.0, digits.from _ h.0.0.1, lt-ltb _ _ h.0.1.sfits)
signed_read w text (Err e) h = sym (cond-false _ _ _ (false_from_ne_true _ (λ passed.
    let tests = and_parts (is_numeral (without_leading_sign text)) _ passed in
    let numeral = and_parts (nat_lt 0 (length (without_leading_sign text))) _ tests.0 in
    h ((ltb-true _ _ numeral.0, digits.to _ numeral.1), record { sfits = ltb-true _ _ tests.1 }))))

-- of digits alone it reads the number that they write, or fails where they are none or too many
pub digits_read : {E : Type 0} (bits : ℕ) (ds : List ℕ) (r : Result ℕ E) → ParsesUnsigned bits 10 ds r → list_all is_ascii_digit ds ≡ true
    → result_ok r ≡ value_in bits ds
unfolding value_in
digits_read bits ds r h passes = by_case r (parse_digits digits bits ds r h passes)
  where
    by_case : {E : Type 0} (r : Result ℕ E) → OkIff r ((0 < length ds) × (digits_value 10 ds < 2 ^ bits)) (digits_value 10 ds)
        → result_ok r ≡ cond (nat_lt 0 (length ds) && nat_lt (digits_value 10 ds) (2 ^ bits)) (Some (digits_value 10 ds)) None
    by_case (Ok n) both = rw (both.1, lt-ltb _ _ both.0.0, lt-ltb _ _ both.0.1) refl
    by_case (Err e) neither = sym (cond-false _ _ _ (false_from_ne_true _ (λ test.
        let parts = and_parts (nat_lt 0 (length ds)) _ test in
        neither (ltb-true _ _ parts.0, ltb-true _ _ parts.1))))
