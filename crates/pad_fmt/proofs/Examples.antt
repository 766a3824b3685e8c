-- The definitions on worked examples, as Rust's own formatting gives them.
use Rattle.std.specs.{Prelude.{◌≡◌, ℕ, negsuc, true, false, [], ◌∷◌, Option, Some, None, codes, refl}, Fmt.{char_count, digits, take_chars}}
use lib.Utf8.{encode}
use Rattle.pad_fmt.specs.{Options.{Options, default_options}, Padding.{padded, padded_width}, Exact.{is_exact_truth, is_exact_char, is_exact_text, is_exact_buffer, is_exact_unsigned, is_exact_signed}}
use Rattle.pad_fmt.specs.{Text.{shown_text, text_width, buffer_width, char_width, truth_width}, Number.{shown_number, shown_signed, shown_unsigned, signed_width, unsigned_width}, declared.options.Alignment.{Alignment}}
use Rattle.pad_fmt.specs.declared.options.Alignment.TheVariants.{Left, Center, Right}

abbrev wide : ℕ → Option Alignment → Options
wide width align = record default_options { width = Some width; align = align }

center_rounds_down_in_front : padded Left (wide 6 (Some Center)) 3 (codes "abc") ≡ codes " abc  "
unfolding padded encode
center_rounds_down_in_front = refl

own_side_without_alignment : padded Right (wide 5 None) 3 (codes "abc") ≡ codes "  abc"
unfolding padded encode
own_side_without_alignment = refl

by_the_width_that_is_told : padded Left (wide 6 (Some Right)) 1 (codes "abc") ≡ codes "     abc"
unfolding padded encode
by_the_width_that_is_told = refl

wide_enough_already : padded Left (wide 3 (Some Right)) 3 (codes "abc") ≡ codes "abc"
unfolding padded
wide_enough_already = refl

-- `é` has two bytes, and is one character
cut_and_padded_by_characters : shown_text (195 ∷ 169 ∷ codes "ab") (record (wide 4 None) { precision = Some 2 }) ≡ 195 ∷ 169 ∷ codes "a  "
unfolding shown_text padded take_chars char_count encode
cut_and_padded_by_characters = refl

-- a precision changes the width of texts alone
abbrev at_most : ℕ → Options
at_most count = record default_options { precision = Some count }

text_width_in_bytes : text_width (195 ∷ 169 ∷ codes "ab") (at_most 3) ≡ 3
text_width_in_bytes = refl

short_text_width : text_width (codes "ab") (at_most 3) ≡ 2
short_text_width = refl

buffer_width_of_all : buffer_width (codes "abc") (at_most 2) ≡ 3
buffer_width_of_all = refl

char_width_of_all : char_width 233 (at_most 0) ≡ 2
unfolding encode
char_width_of_all = refl

truth_width_of_all : (truth_width true (at_most 2) ≡ 4) × (truth_width false (at_most 2) ≡ 5)
truth_width_of_all = (refl, refl)

unsigned_width_of_all : unsigned_width 123 (at_most 2) ≡ 3
unfolding digits
unsigned_width_of_all = refl

signed_width_of_all : signed_width (negsuc 122) (at_most 2) ≡ 4
unfolding digits
signed_width_of_all = refl

-- where widths are exact: with no precision, with ASCII alone, with no flag `-`
exact_truth : (is_exact_truth true default_options ≡ true) × (is_exact_truth true (at_most 9) ≡ false)
exact_truth = (refl, refl)

exact_char : (is_exact_char 127 default_options ≡ true) × (is_exact_char 128 default_options ≡ false)
    × (is_exact_char 97 (at_most 9) ≡ false)
exact_char = (refl, refl, refl)

exact_text : (is_exact_text (codes "ab") (at_most 1) ≡ true) × (is_exact_text (97 ∷ 195 ∷ 169 ∷ []) default_options ≡ false)
exact_text = (refl, refl)

exact_buffer : (is_exact_buffer (codes "ab") default_options ≡ true) × (is_exact_buffer (codes "ab") (at_most 9) ≡ false)
    × (is_exact_buffer (195 ∷ 169 ∷ []) default_options ≡ false)
exact_buffer = (refl, refl, refl)

exact_unsigned : (is_exact_unsigned 7 (at_most 1) ≡ true) × (is_exact_unsigned 7 (record default_options { sign_plus = true }) ≡ true)
    × (is_exact_unsigned 7 (record default_options { sign_minus = true }) ≡ false)
exact_unsigned = (refl, refl, refl)

-- and of signed numbers always
exact_signed : is_exact_signed (negsuc 6) (record (at_most 1) { sign_minus = true }) ≡ true
exact_signed = refl

zeros_after_sign : shown_signed (negsuc 11) (record (wide 6 None) { sign_aware_zero_pad = true }) ≡ codes "-00012"
unfolding shown_number digits
zeros_after_sign = refl

plus_before_digits : shown_unsigned 12 (record (wide 5 None) { sign_plus = true }) ≡ codes "  +12"
unfolding shown_number padded digits encode
plus_before_digits = refl

minus_flag_counts_one : unsigned_width 12 (record default_options { sign_minus = true }) ≡ 3
unfolding digits
minus_flag_counts_one = refl

minus_sign_counts_one : signed_width (negsuc 11) default_options ≡ 3
unfolding digits
minus_sign_counts_one = refl

requested_width_is_greater : padded_width 3 (wide 8 None) ≡ 8
requested_width_is_greater = refl
