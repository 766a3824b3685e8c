-- How wide a number and a list of texts are.
use Rattle.std.proofs.{Common.{◌≡◌, ℤ, pos, negsuc, suc, ◌+◌, ◌^◌, ◌<◌, length, ap, sym, true, false, ◌∙◌, arith, zero-add}, lemmas.Fmt.{IsAscii-signed}, lemmas.Int.{ints}}
use Rattle.std.specs.{Fmt.{char_count, decimal, signed_decimal}, Int.{is_negative}, Int.Signed.{mag}}
use Rattle.basics.specs.ComparisonLaws.{lt_fail, lt_pass}
use Rattle.pad_fmt.specs.{Number.{sign_text, signed_width}, Options.{default_options}, Padding.{padded_width}, TextLaws.{char_count-ascii}}

length_of_number : (z : ℤ) → padded_width (signed_width z default_options) default_options ≡ length (signed_decimal z)
length_of_number (pos n) =
    let plus : is_negative (pos n) ≡ false = lt_fail (pos n) (pos 0) (omega (arith, ints)) in
    let wide : signed_width (pos n) default_options ≡ length (decimal n) =
    ap (λ b. length (sign_text b default_options) + length (decimal n)) plus ∙ zero-add (length (decimal n)) in
    omega (arith, wide)
length_of_number (negsuc n) =
    let minus : is_negative (negsuc n) ≡ true = lt_pass (negsuc n) (pos 0) (omega (arith, ints)) in
    let wide : signed_width (negsuc n) default_options ≡ 1 + length (decimal (suc n)) =
    ap (λ b. length (sign_text b default_options) + length (decimal (suc n))) minus in
    omega (arith, wide)

-- a number is as wide as its decimal text has characters
pub number_width : (z : ℤ) → mag z < 2 ^ 63 → padded_width (signed_width z default_options) default_options ≡ char_count (signed_decimal z)
number_width z small = length_of_number z ∙ sym (char_count-ascii (signed_decimal z) (IsAscii-signed z small))
