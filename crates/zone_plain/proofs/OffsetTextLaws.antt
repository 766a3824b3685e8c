-- Two totals have one text only where they are one.
use Rattle.std.{proofs.Common.{◌≡◌, ℕ, suc, ◌+◌, ◌/◌, ◌%◌, ℤ, pos, negsuc, Bool, true, false, cond, List, [], ◌∷◌, ◌++◌, get_or, drop, refl, sym, ap, ◌∙◌, arith}, proofs.lemmas.Bool.Decides.{nat_tests}, specs.Prelude.{◌==◌, int_lt}}
use Rattle.zone_plain_lines.specs.PlainTexts.{two_digits}
use Rattle.zone_plain.specs.OffsetTexts.{seconds_text, minutes_text, offset_text}

zero_is : (n : ℕ) → (n == 0) ≡ true → n ≡ 0
zero_is n e = grind (arith, nat_tests)

number_is : (m n : ℕ) → 48 + m / 10 ≡ 48 + n / 10 → 48 + m % 10 ≡ 48 + n % 10 → m ≡ n
number_is m n tens ones = omega (arith, tens, ones)

seconds_are : (m n : ℕ) → seconds_text m ≡ seconds_text n → m ≡ n
seconds_are m n e = by_tests (m == 0) (n == 0) refl refl e
  where
    by_tests : (a b : Bool) → (m == 0) ≡ a → (n == 0) ≡ b → cond a [] (two_digits m) ≡ cond b [] (two_digits n) → m ≡ n
    by_tests true true p q e = zero_is m p ∙ sym (zero_is n q)
    by_tests true false p q e = absurd (cc)
    by_tests false true p q e = absurd (cc)
    by_tests false false p q e = number_is m n (ap (λ l. get_or l 0 0) e) (ap (λ l. get_or l 1 0) e)

minutes_are : (m n : ℕ) → minutes_text m ≡ minutes_text n → m ≡ n
minutes_are m n e = by_tests (m == 0) (n == 0) refl refl e
  where
    both : two_digits (m / 60) ++ seconds_text (m % 60) ≡ two_digits (n / 60) ++ seconds_text (n % 60) → m ≡ n
    both e =
        let minutes = number_is (m / 60) (n / 60) (ap (λ l. get_or l 0 0) e) (ap (λ l. get_or l 1 0) e) in
        let seconds = seconds_are (m % 60) (n % 60) (ap (drop 2) e) in
        omega (arith, minutes, seconds)

    by_tests : (a b : Bool) → (m == 0) ≡ a → (n == 0) ≡ b
        → cond a [] (two_digits (m / 60) ++ seconds_text (m % 60)) ≡ cond b [] (two_digits (n / 60) ++ seconds_text (n % 60)) → m ≡ n
    by_tests true true p q e = zero_is m p ∙ sym (zero_is n q)
    by_tests false false p q e = both e
    by_tests _ _ p q e = absurd (cc)

size_is : (m n : ℕ) (s t : ℕ) → (s ∷ two_digits (m / 3600)) ++ minutes_text (m % 3600) ≡ (t ∷ two_digits (n / 3600)) ++ minutes_text (n % 3600) → m ≡ n
size_is m n s t e =
    let hours = number_is (m / 3600) (n / 3600) (ap (λ l. get_or l 1 0) e) (ap (λ l. get_or l 2 0) e) in
    let rest = minutes_are (m % 3600) (n % 3600) (ap (drop 3) e) in
    omega (arith, hours, rest)

east : (m : ℕ) → int_lt (pos m) (pos 0) ≡ false
east m = grind (arith, nat_tests)

west : (m : ℕ) → int_lt (negsuc m) (pos 0) ≡ true
west m = grind (arith, nat_tests)

-- the text of a size after a sign
abbrev after_sign : Bool → ℕ → List ℕ
after_sign is_west n = (cond is_west 45 43 ∷ two_digits (n / 3600)) ++ minutes_text (n % 3600)

east_text : (m : ℕ) → offset_text (pos m) ≡ after_sign false m
unfolding offset_text
east_text m = ap (λ b. after_sign b m) (east m)

west_text : (m : ℕ) → offset_text (negsuc m) ≡ after_sign true (suc m)
unfolding offset_text
west_text m = ap (λ b. after_sign b (suc m)) (west m)

-- whatever their sizes
pub one_total : (a b : ℤ) → offset_text a ≡ offset_text b → a ≡ b
one_total (pos m) (pos n) e = ap pos (size_is m n 43 43 (sym (east_text m) ∙ e ∙ east_text n))
one_total (negsuc m) (negsuc n) e =
    ap negsuc (let same = size_is (suc m) (suc n) 45 45 (sym (west_text m) ∙ e ∙ west_text n) in omega (arith, same))
one_total (pos m) (negsuc n) e = absurd (let first = ap (λ l. get_or l 0 0) (sym (east_text m) ∙ e ∙ west_text n) in omega (arith, first))
one_total (negsuc m) (pos n) e = absurd (let first = ap (λ l. get_or l 0 0) (sym (west_text m) ∙ e ∙ east_text n) in omega (arith, first))
