-- The width law of whole numbers: what is due has as many bytes as its padded width says.
use Rattle.std.specs.{Prelude.{◌≡◌, ℕ, ℤ, ◌+◌, ◌<◌, Bool, true, false, List, [], ◌++◌, length, ◌||◌, unsigned_abs, if◌then◌else◌, codes}, List.{repeat}, Int.{is_negative}, Fmt.{decimal}}
use Rattle.std.proofs.{Common.{arith, ap, sym, ◌∙◌, length-append}, lemmas.Bool.{not-true}}
use Rattle.pad_fmt.specs.{Options.{Options}, Exact.{is_exact_unsigned, is_exact_signed}, Padding.{padded_width, HasPaddedWidth, shortfall, padded}, PaddingLaws.{length-repeat_byte, length-padded}}
use Rattle.pad_fmt.specs.{Number.{sign_text, shown_number, shown_unsigned, unsigned_width, shown_signed, signed_width}, declared.options.Alignment.TheVariants.{Right}}

-- shared by all whole numbers
number_law : (sign : List ℕ) (magnitude : ℕ) (f : Options) → f.fill < 128
    → HasPaddedWidth (shown_number sign magnitude f) (length sign + length (decimal magnitude)) f
unfolding shown_number
number_law sign magnitude f ascii = by_zeros f.sign_aware_zero_pad
  where
    digits : List ℕ
    digits = decimal magnitude

    width : ℕ
    width = length sign + length digits

    zeros : List ℕ
    zeros = repeat (shortfall f width) (codes "0")

    by_zeros : (zero_pad : Bool)
        → HasPaddedWidth (if zero_pad then sign ++ (zeros ++ digits) else padded Right f width (sign ++ digits)) width f
    by_zeros true = omega
        (arith, length-append sign (zeros ++ digits), length-append zeros digits, length-repeat_byte (shortfall f width) 48)
    by_zeros false = omega
        (arith, length-padded Right f width (sign ++ digits) ascii, length-append sign digits)

pub unsigned_law : (n : ℕ) (f : Options) → is_exact_unsigned n f ≡ true → f.fill < 128
    → HasPaddedWidth (shown_unsigned n f) (unsigned_width n f) f
unsigned_law n f exact ascii = by_plus f.sign_plus
  where
    no_minus : f.sign_minus ≡ false
    no_minus = not-true f.sign_minus exact

    by_plus : (plus : Bool)
        → HasPaddedWidth (shown_number (if plus then codes "+" else []) n f)
        (length (decimal n) + (if plus || f.sign_minus then 1 else 0)) f
    by_plus true = number_law (codes "+") n f ascii ∙ ap (λ w. padded_width w f) (omega arith)
    by_plus false = number_law [] n f ascii
        ∙ ap (λ w. padded_width w f) (omega arith)
        ∙ ap (λ (minus : Bool). padded_width (length (decimal n) + (if minus then 1 else 0)) f) (sym no_minus)

pub signed_law : (z : ℤ) (f : Options) → is_exact_signed z f ≡ true → f.fill < 128
    → HasPaddedWidth (shown_signed z f) (signed_width z f) f
signed_law z f _ ascii = number_law (sign_text (is_negative z) f) (unsigned_abs z) f ascii
