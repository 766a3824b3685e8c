-- What a whole number is due to give under its options.
use Rattle.std.specs.{Prelude.{ℕ, ℤ, ◌+◌, Bool, false, ◌||◌, List, [], ◌++◌, length, if◌then◌else◌, unsigned_abs, codes}, List.{repeat}, Int.{is_negative}, Fmt.{decimal}}
use Rattle.pad_fmt.specs.{Options.{Options}, Padding.{padded, shortfall}, declared.options.Alignment.TheVariants.{Right}}

-- `-` below 0, and else `+` where it is asked for
abbrev pub sign_text : Bool → Options → List ℕ
sign_text negative f = if negative then codes "-" else (if f.sign_plus then codes "+" else [])

-- a sign and decimal digits, with zeros between them where that is asked for, and else with fill around both
unfoldable pub shown_number : List ℕ → ℕ → Options → List ℕ
shown_number sign magnitude f =
    let digits = decimal magnitude in
    let width = length sign + length digits in
    if f.sign_aware_zero_pad then sign ++ (repeat (shortfall f width) (codes "0") ++ digits)
    else padded Right f width (sign ++ digits)

abbrev pub shown_unsigned : ℕ → Options → List ℕ
shown_unsigned n f = shown_number (sign_text false f) n f

abbrev pub shown_signed : ℤ → Options → List ℕ
shown_signed z f = shown_number (sign_text (is_negative z) f) (unsigned_abs z) f

-- the digits, and one more where either sign is asked for
abbrev pub unsigned_width : ℕ → Options → ℕ
unsigned_width n f = length (decimal n) + (if f.sign_plus || f.sign_minus then 1 else 0)

-- the digits, and one more where a sign is shown
abbrev pub signed_width : ℤ → Options → ℕ
signed_width z f = length (sign_text (is_negative z) f) + length (decimal (unsigned_abs z))
