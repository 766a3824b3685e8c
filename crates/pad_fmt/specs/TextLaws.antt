-- The width law of texts, characters and truth values: an ASCII character is one byte.
use Rattle.std.specs.{Prelude.{◌≡◌, ℕ, zero, suc, ◌+◌, ◌-◌, ◌<◌, ◌==◌, min, Bool, true, false, if◌then◌else◌, refl, List, [], ◌∷◌, length, take, Option, Some, None, unwrap_or, encode_utf8, codes}, Option.{option_map, is_none}, Char.{is_ascii}, Str.{IsAscii}}
use Rattle.std.specs.Fmt.{char_count, take_chars, is_char_start}
use Rattle.std.proofs.{Common.{arith, lit<, ap, sym, ◌∙◌}, Math.Seq.{take-nil}, lemmas.Bool.{and_parts}, lemmas.Bool.Decides.{nat_tests}, lemmas.List.{length-take}, lemmas.Str.{encode_ascii, IsAscii-take}, lemmas.Str.Ascii.{IsAscii-cons, IsAscii-nil}}
use Rattle.pad_fmt.specs.{Options.{Options}, Padding.{padded_width, HasPaddedWidth}, PaddingLaws.{length-padded}, Exact.{is_uncut, is_ascii_text, is_exact_truth, is_exact_char, is_exact_text, is_exact_buffer}}
use Rattle.pad_fmt.specs.{Text.{cut, shown_text, text_width, buffer_width, char_width, truth_text, truth_width}, declared.options.Alignment.TheVariants.{Left}}

pub char_count-empty : char_count [] ≡ 0
unfolding char_count
char_count-empty = refl

-- one step of `char_count`, and of `take_chars`
pub char_count-cons : (b : ℕ) (text : List ℕ)
    → char_count (b ∷ text) ≡ (if is_char_start b then 1 else 0) + char_count text
unfolding char_count
char_count-cons b text = refl

pub take_chars-cons : (n b : ℕ) (text : List ℕ)
    → take_chars n (b ∷ text)
    ≡ (if is_char_start b then (if n == 0 then [] else b ∷ take_chars (n - 1) text) else b ∷ take_chars n text)
unfolding take_chars
take_chars-cons n b text = refl

pub take_chars-empty : (n : ℕ) → take_chars n [] ≡ []
unfolding take_chars
take_chars-empty n = refl

ascii_begins_char : (b : ℕ) → b < 128 → is_char_start b ≡ true
ascii_begins_char b ascii = grind (arith, nat_tests)

pub char_count-ascii : (text : List ℕ) → IsAscii text → char_count text ≡ length text
char_count-ascii [] ascii = char_count-empty
char_count-ascii (b ∷ text) ascii = char_count-cons b text
    ∙ ap (λ t. (if t then 1 else 0) + char_count text) (ascii_begins_char b (ascii 0))
    ∙ omega (arith, char_count-ascii text (λ i. ascii (suc i)))

take_chars-ascii : (n : ℕ) (text : List ℕ) → IsAscii text → take_chars n text ≡ take n text
take_chars-ascii n [] ascii = take_chars-empty n ∙ sym (take-nil n)
take_chars-ascii zero (b ∷ text) ascii = rw (take_chars-cons 0 b text, ascii_begins_char b (ascii 0)) refl
take_chars-ascii (suc n) (b ∷ text) ascii =
    let first : take_chars (suc n) (b ∷ text) ≡ b ∷ take_chars n text
    = grind (arith, take_chars-cons (suc n) b text, ascii_begins_char b (ascii 0)) in
    first ∙ ap (λ l. b ∷ l) (take_chars-ascii n text (λ i. ascii (suc i)))

cut-ascii : (precision : Option ℕ) (text : List ℕ) → IsAscii text → IsAscii (cut precision text)
cut-ascii None text ascii = ascii
cut-ascii (Some n) text ascii = rw (take_chars-ascii n text ascii) (IsAscii-take text n ascii)

length-cut : (precision : Option ℕ) (text : List ℕ) → IsAscii text
    → length (cut precision text) ≡ unwrap_or (option_map (min (length text)) precision) (length text)
length-cut None text ascii = refl
length-cut (Some n) text ascii = rw (take_chars-ascii n text ascii) (length-take n text ∙ omega arith)

-- shared by all that is shown as a text
length-shown_text : (text : List ℕ) (f : Options) → IsAscii text → f.fill < 128
    → HasPaddedWidth (shown_text text f) (length (cut f.precision text)) f
unfolding shown_text
length-shown_text text f ascii ascii_fill =
    length-padded Left f (char_count (cut f.precision text)) (cut f.precision text) ascii_fill
    ∙ rw (char_count-ascii (cut f.precision text) (cut-ascii f.precision text ascii)) (omega arith)

-- what the tests say
ascii_char : (c : ℕ) → is_ascii c ≡ true → c < 128
ascii_char c is = grind (arith, nat_tests)

ascii_text : (text : List ℕ) → is_ascii_text text ≡ true → IsAscii text
ascii_text [] is = IsAscii-nil
ascii_text (b ∷ text) is =
    let parts = and_parts (is_ascii b) (is_ascii_text text) is in
    IsAscii-cons b text (ascii_char b parts.0) (ascii_text text parts.1)

uncut : (precision : Option ℕ) → is_none precision ≡ true → precision ≡ None
uncut None is = refl
uncut (Some n) is = cc

pub text_law : (text : List ℕ) (f : Options) → is_exact_text text f ≡ true → f.fill < 128
    → HasPaddedWidth (shown_text text f) (text_width text f) f
text_law text f exact ascii_fill = length-shown_text text f (ascii_text text exact) ascii_fill
    ∙ ap (λ w. padded_width w f) (length-cut f.precision text (ascii_text text exact))

uncut_law : (text : List ℕ) (f : Options) → IsAscii text → f.precision ≡ None → f.fill < 128
    → HasPaddedWidth (shown_text text f) (length text) f
uncut_law text f ascii uncut ascii_fill = length-shown_text text f ascii ascii_fill
    ∙ ap (λ p. padded_width (length (cut p text)) f) uncut

pub buffer_law : (text : List ℕ) (f : Options) → is_exact_buffer text f ≡ true → f.fill < 128
    → HasPaddedWidth (shown_text text f) (buffer_width text f) f
buffer_law text f exact ascii_fill =
    let parts = and_parts (is_ascii_text text) (is_uncut f) exact in
    uncut_law text f (ascii_text text parts.0) (uncut f.precision parts.1) ascii_fill

pub char_law : (c : ℕ) (f : Options) → is_exact_char c f ≡ true → f.fill < 128
    → HasPaddedWidth (shown_text (encode_utf8 c) f) (char_width c f) f
char_law c f exact ascii_fill =
    let parts = and_parts (is_ascii c) (is_uncut f) exact in
    let ascii = ascii_char c parts.0 in
    uncut_law (encode_utf8 c) f (rw (encode_ascii c ascii) (IsAscii-cons c [] ascii IsAscii-nil)) (uncut f.precision parts.1) ascii_fill

truth_text_ascii : (truth : Bool) → IsAscii (truth_text truth)
truth_text_ascii true =
    IsAscii-cons 116 (codes "rue") (lit< tt) (IsAscii-cons 114 (codes "ue") (lit< tt)
    (IsAscii-cons 117 (codes "e") (lit< tt) (IsAscii-cons 101 [] (lit< tt) IsAscii-nil)))
truth_text_ascii false =
    IsAscii-cons 102 (codes "alse") (lit< tt) (IsAscii-cons 97 (codes "lse") (lit< tt)
    (IsAscii-cons 108 (codes "se") (lit< tt) (IsAscii-cons 115 (codes "e") (lit< tt)
    (IsAscii-cons 101 [] (lit< tt) IsAscii-nil))))

pub truth_law : (truth : Bool) (f : Options) → is_exact_truth truth f ≡ true → f.fill < 128
    → HasPaddedWidth (shown_text (truth_text truth) f) (truth_width truth f) f
truth_law truth f exact ascii_fill = uncut_law (truth_text truth) f (truth_text_ascii truth) (uncut f.precision exact) ascii_fill
