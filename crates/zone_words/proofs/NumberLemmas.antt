-- Numbers in digits.
use Rattle.std.proofs.{Common.{◌≡◌, refl, arith, ℕ, suc, ◌+◌, ◌-◌, ◌*◌, ◌^◌, ◌<◌, ◌≤◌, min, Bool, true, false, List, [], ◌∷◌, length, nat_le, get_or, drop, take_while, cond, sym, ◌∙◌}, lemmas.Bool.{and_parts}, lemmas.Bool.Decides.{nat_tests}}
use Rattle.std.proofs.{lemmas.List.{drop_more}, lemmas.List.Sums.{take_while-cons}, lemmas.Nat.{pow-add}, Math.Nat.{mul-lt-mul_of_pos_right, mul-le-mul_right, le-mul_of_pos_right, one-le-pow, min-eq_left, min-eq_right}}
use Rattle.std.specs.{Char.{is_ascii_digit}, List.{list_all}}
use Rattle.zone_words.specs.Numbers.{number_after}

-- more digits make no smaller number
grows : (n : ℕ) (ds : List ℕ) → n ≤ number_after n ds
grows n [] = omega arith
grows n (c ∷ ds) =
    let more = grows (10 * n + (c - 48)) ds in
    omega arith

-- what is more than the most stays more
pub capped : (n most : ℕ) (ds : List ℕ) → min (number_after (min n most) ds) most ≡ min (number_after n ds) most
capped n most ds = by_size (nat_le n most) refl
  where
    by_size : (b : Bool) → nat_le n most ≡ b → min (number_after (min n most) ds) most ≡ min (number_after n ds) most
    by_size true e =
        let small : n ≤ most = grind (arith, nat_tests) in
        rw (min-eq_left small) refl
    by_size false e =
        let large : most ≤ n = grind (arith, nat_tests) in
        let one = grows most ds in
        let other = grows n ds in
        rw (min-eq_right large) (omega arith)

-- one digit more
pub step : (n d most i : ℕ) (ds : List ℕ) → i < length ds → d ≡ get_or ds i 0 - 48
    → min (number_after (min (10 * n + d) most) (drop (i + 1) ds)) most ≡ min (number_after n (drop i ds)) most
step n d most i ds inside is = rw (capped (10 * n + d) most (drop (i + 1) ds), is, drop_more ds i 0 inside) refl

pub ten_times : (a k : ℕ) → a * 10 ^ suc k ≡ a * 10 * 10 ^ k
ten_times a k =
    let one : suc k ≡ 1 + k = omega arith in
    let e : 10 ^ suc k ≡ 10 * 10 ^ k = rw one (pow-add 10 1 k) in
    let p = 10 ^ k in
    rw e (grind arith)

-- a number of k digits
below : (n : ℕ) (ds : List ℕ) → list_all is_ascii_digit ds ≡ true → number_after n ds < suc n * 10 ^ length ds
below n [] digits = omega arith
below n (c ∷ ds) digits =
    let both = and_parts (is_ascii_digit c) _ digits in
    let small : c - 48 ≤ 9 = grind (arith, nat_tests, both.0) in
    let more = below (10 * n + (c - 48)) ds both.1 in
    let p = 10 ^ length ds in
    let wide : suc (10 * n + (c - 48)) * p ≤ suc n * 10 * p = mul-le-mul_right p (omega arith) in
    rw (ten_times (suc n) (length ds)) (omega arith)

pub fraction_below : (ds : List ℕ) → list_all is_ascii_digit ds ≡ true → length ds ≤ 9
    → (number_after 0 ds < 1000000000) × (number_after 0 ds * 10 ^ (9 - length ds) < 1000000000)
fraction_below ds digits short =
    let small : number_after 0 ds < 10 ^ length ds = omega (arith, below 0 ds digits) in
    let whole : 10 ^ length ds * 10 ^ (9 - length ds) ≡ 1000000000 = sym (pow-add 10 (length ds) (9 - length ds))
    ∙ (let e : length ds + (9 - length ds) ≡ 9 = omega arith in rw e refl) in
    let inside : number_after 0 ds * 10 ^ (9 - length ds) < 1000000000 =
    rw (← whole) (mul-lt-mul_of_pos_right small (one-le-pow (9 - length ds) 10 (omega arith))) in
    let no_less = le-mul_of_pos_right (number_after 0 ds) (one-le-pow (9 - length ds) 10 (omega arith)) in
    (omega (arith, no_less, inside), inside)

-- what passes at the front passes
pub run_passes : (text : List ℕ) → list_all is_ascii_digit (take_while is_ascii_digit text) ≡ true
run_passes [] = refl
run_passes (b ∷ text) = rw take_while-cons (by_test (is_ascii_digit b) refl (run_passes text))
  where
    by_test : (t : Bool) → is_ascii_digit b ≡ t → list_all is_ascii_digit (take_while is_ascii_digit text) ≡ true
        → list_all is_ascii_digit (cond t (b ∷ take_while is_ascii_digit text) []) ≡ true
    by_test true e more = rw e more
    by_test false e more = refl
