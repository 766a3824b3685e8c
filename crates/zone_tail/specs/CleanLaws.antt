-- Texts of which strings and footers are made have no line feed and no zero byte.
use Rattle.std.proofs.{Common.{◌≡◌, ℕ, zero, suc, ◌+◌, ◌/◌, ◌%◌, Bool, true, false, not, cond, ◌&&◌, ◌==◌, List, [], ◌∷◌, ◌++◌, nat_lt, refl, ◌∙◌, arith, ℤ, pos, int_lt, int_eq, ◌+ℤ◌, unsigned_abs}, lemmas.Bool.{and_from, and_parts}}
use Rattle.std.proofs.lemmas.{Bool.Decides.{nat_tests}, List.Folds.{list_all-append}}
use Rattle.std.specs.{Fmt.{decimal, digits, digits_onto, digit_glyph}, List.{list_all}, Prelude.{codes}}
use Rattle.zone_tail.specs.{Tails.{is_name, is_name_byte, is_posix_byte, is_posix_name}, Texts.{is_plain, minute_text, name_text, offset_text, saving_text, second_text, time_text, two_digits}}

abbrev pub IsClean : List ℕ → Type 0
IsClean text = list_all (λ c. not (c == 10) && not (c == 0)) text ≡ true

pub both : (a b : List ℕ) → IsClean a → IsClean b → IsClean (a ++ b)
both a b x y = list_all-append (λ c. not (c == 10) && not (c == 0)) a b ∙ and_from _ _ x y

-- either of two clean texts
pub either : (b : Bool) (x y : List ℕ) → IsClean x → IsClean y → IsClean (cond b x y)
either true x y clean_x clean_y = clean_x
either false x y clean_x clean_y = clean_y

-- ---- numbers

glyph_clean : (d : ℕ) → (not (digit_glyph false d == 10) && not (digit_glyph false d == 0)) ≡ true
glyph_clean d = by_test (nat_lt d 10)
  where
    by_test : (b : Bool) → (not (cond b (48 + d) (87 + d) == 10) && not (cond b (48 + d) (87 + d) == 0)) ≡ true
    by_test true = grind (arith, nat_tests)
    by_test false = grind (arith, nat_tests)

digits_clean : (k n : ℕ) (rest : List ℕ) → IsClean rest → IsClean (digits_onto k 10 false n rest)
digits_clean zero n rest clean = clean
digits_clean (suc k) n rest clean =
    let more : IsClean (digit_glyph false (n % 10) ∷ rest) = and_from _ _ (glyph_clean (n % 10)) clean in
    either (n / 10 == 0) _ _ more (digits_clean k (n / 10) (digit_glyph false (n % 10) ∷ rest) more)

pub number_clean : (n : ℕ) → IsClean (decimal n)
unfolding digits
number_clean n = digits_clean 64 n [] refl

-- ---- times

two_clean : (n : ℕ) → IsClean (two_digits n)
two_clean n = both (cond (nat_lt n 10) (codes "0") []) (decimal n) (either (nat_lt n 10) (codes "0") [] refl refl) (number_clean n)

second_clean : (s : ℕ) → IsClean (second_text s)
second_clean s = either (s == 0) [] (codes ":" ++ two_digits s) refl (both (codes ":") (two_digits s) refl (two_clean s))

minute_clean : (m s : ℕ) → IsClean (minute_text m s)
minute_clean m s =
    either (m == 0 && s == 0) [] (codes ":" ++ two_digits m ++ second_text s) refl
    (both (codes ":" ++ two_digits m) (second_text s) (both (codes ":") (two_digits m) refl (two_clean m)) (second_clean s))

pub time_clean : (n : ℕ) → IsClean (time_text n)
unfolding time_text
time_clean n = both (decimal (n / 3600)) (minute_text (n / 60 % 60) (n % 60)) (number_clean (n / 3600)) (minute_clean (n / 60 % 60) (n % 60))

pub offset_clean : (east : ℤ) → IsClean (offset_text east)
unfolding offset_text
offset_clean east =
    both (cond (int_lt (pos 0) east) (codes "-") []) (time_text (unsigned_abs east)) (either (int_lt (pos 0) east) (codes "-") [] refl refl) (time_clean (unsigned_abs east))

pub saving_clean : (standard saving : ℤ) → IsClean (saving_text standard saving)
unfolding saving_text
saving_clean standard saving = either (int_eq saving (standard +ℤ pos 3600)) [] (offset_text saving) refl (offset_clean saving)

-- ---- names

pub name_clean : (name : List ℕ) → IsClean name → IsClean (name_text name)
unfolding name_text
name_clean name clean =
    either (is_plain name) name (codes "<" ++ name ++ codes ">") clean (both (codes "<" ++ name) (codes ">") (both (codes "<") name refl clean) refl)

bytes_clean : (is_byte : ℕ → Bool) → ((c : ℕ) → is_byte c ≡ true → (not (c == 10) && not (c == 0)) ≡ true) → (name : List ℕ)
    → list_all is_byte name ≡ true → IsClean name
bytes_clean is_byte clean [] all = refl
bytes_clean is_byte clean (c ∷ name) all =
    let parts = and_parts (is_byte c) (list_all is_byte name) all in
    and_from _ _ (clean c parts.0) (bytes_clean is_byte clean name parts.1)

pub named_clean : (name : List ℕ) → is_name name ≡ true → IsClean name
named_clean name is = bytes_clean is_name_byte byte name (and_parts _ (list_all is_name_byte name) is).1
  where
    byte : (c : ℕ) → is_name_byte c ≡ true → (not (c == 10) && not (c == 0)) ≡ true
    byte c is = grind (arith, nat_tests, is)

pub posix_clean : (name : List ℕ) → is_posix_name name ≡ true → IsClean name
posix_clean name is = bytes_clean is_posix_byte byte name (and_parts _ (list_all is_posix_byte name) is).1
  where
    byte : (c : ℕ) → is_posix_byte c ≡ true → (not (c == 10) && not (c == 0)) ≡ true
    byte c is = grind (arith, nat_tests, is)
