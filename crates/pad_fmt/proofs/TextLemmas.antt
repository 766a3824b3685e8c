-- Lemmas on the characters of a text, from byte to byte.
use Rattle.std.specs.{Prelude.{◌≡◌, ℕ, zero, suc, ◌+◌, ◌-◌, ◌<◌, ◌==◌, true, false, List, [], ◌∷◌, ◌++◌, length, take, drop, slice_index, count_by, if◌then◌else◌, refl}, Fmt.{char_count, take_chars, is_char_start}}
use Rattle.std.proofs.{Common.{arith, ap, sym, ◌∙◌, ne_eqb, add-one}, lemmas.List.Sums.{sum_by-cons}}
use Rattle.pad_fmt.specs.TextLaws.{char_count-empty, char_count-cons, take_chars-cons}

-- each character has one first byte
pub char_count-first_bytes : (text : List ℕ) → char_count text ≡ count_by is_char_start text
char_count-first_bytes [] = char_count-empty
char_count-first_bytes (b ∷ text) = char_count-cons b text
    ∙ ap (λ n. (if is_char_start b then 1 else 0) + n) (char_count-first_bytes text)
    ∙ sym (sum_by-cons (λ x. if is_char_start x then 1 else 0) b text)

-- past a byte within a character, none of the characters that are left is used up
pub past_inner_byte : (i n : ℕ) (text : List ℕ) → i < length text → is_char_start (slice_index text i) ≡ false
    → take i text ++ take_chars n (drop i text) ≡ take (i + 1) text ++ take_chars n (drop (i + 1) text)
past_inner_byte i n [] within inner = absurd (omega arith)
past_inner_byte zero n (b ∷ text) within inner = take_chars-cons n b text
    ∙ ap (λ t. if t then (if n == 0 then [] else b ∷ take_chars (n - 1) text) else b ∷ take_chars n text) inner
past_inner_byte (suc i) n (b ∷ text) within inner =
    rw add-one (ap (λ l. b ∷ l) (rw add-one at (past_inner_byte i n text (omega arith) inner)))

-- past the first byte of a character, one of them is
pub past_first_byte : (i n : ℕ) (text : List ℕ) → i < length text → 0 < n → is_char_start (slice_index text i) ≡ true
    → take i text ++ take_chars n (drop i text) ≡ take (i + 1) text ++ take_chars (n - 1) (drop (i + 1) text)
past_first_byte i n [] within some first = absurd (omega arith)
past_first_byte zero n (b ∷ text) within some first = take_chars-cons n b text
    ∙ ap (λ t. if t then (if n == 0 then [] else b ∷ take_chars (n - 1) text) else b ∷ take_chars n text) first
    ∙ ap (λ t. if t then [] else b ∷ take_chars (n - 1) text) (ne_eqb n 0 (omega arith))
past_first_byte (suc i) n (b ∷ text) within some first =
    rw add-one (ap (λ l. b ∷ l) (rw add-one at (past_first_byte i n text (omega arith) some first)))

-- where none is left, the text is cut before the first byte of a character
pub cut_at_first_byte : (i : ℕ) (text : List ℕ) → i < length text → is_char_start (slice_index text i) ≡ true
    → take i text ++ take_chars 0 (drop i text) ≡ take i text
cut_at_first_byte i [] within first = absurd (omega arith)
cut_at_first_byte zero (b ∷ text) within first = rw (take_chars-cons 0 b text, first) refl
cut_at_first_byte (suc i) (b ∷ text) within first =
    ap (λ l. b ∷ l) (cut_at_first_byte i text (omega arith) first)
