-- Where the width that a value answers is that of its text, under an ASCII fill.
use Rattle.std.specs.{Prelude.{ℕ, ℤ, Bool, true, not, ◌&&◌, List}, Char.{is_ascii}, List.{list_all}, Option.{is_none}}
use Rattle.pad_fmt.specs.Options.{Options}

-- no precision cuts the text
abbrev pub is_uncut : Options → Bool
is_uncut f = is_none f.precision

abbrev pub is_ascii_text : List ℕ → Bool
is_ascii_text text = list_all is_ascii text

abbrev pub is_exact_truth : Bool → Options → Bool
is_exact_truth truth f = is_uncut f

abbrev pub is_exact_char : ℕ → Options → Bool
is_exact_char c f = is_ascii c && is_uncut f

abbrev pub is_exact_text : List ℕ → Options → Bool
is_exact_text text f = is_ascii_text text

abbrev pub is_exact_buffer : List ℕ → Options → Bool
is_exact_buffer text f = is_ascii_text text && is_uncut f

abbrev pub is_exact_unsigned : ℕ → Options → Bool
is_exact_unsigned n f = not f.sign_minus

abbrev pub is_exact_signed : ℤ → Options → Bool
is_exact_signed z f = true
