-- Where texts are cut at a slash.
use Rattle.std.proofs.{Common.{◌≡◌, ℕ, suc, ◌==◌, eqb-true, lit<, length-drop, ◌+◌, ◌-◌, ◌<◌, ◌≤◌, Bool, true, false, not, cond, List, [], ◌∷◌, length, take, drop, get_or, refl, sym, ap, ◌∙◌, arith, Some, None}, lemmas.List.{get_or-drop}}
use Rattle.std.proofs.lemmas.{List.Folds.{list_any_at}, List.Sums.{suffix_len_is}, Str.Pattern.{NoCharPasses-char}}
use Rattle.std.specs.{Prelude.{◌||◌, ◌≢◌}, List.{list_any, position_or_len, prefix_len, suffix_len, before_first, after_first, before_last, after_last}, Str.{NoCharPasses}, Str.Pattern.{HasCharAt}}
use Rattle.zone_table.specs.{Formats.{is_slash}, NameTree.{submodule, time_zone, submodule_of, time_zone_of}}

-- the first place where a test passes
passes_at_place : (test : ℕ → Bool) (xs : List ℕ) → position_or_len test xs < length xs → list_any test xs ≡ true
passes_at_place test [] h = absurd (omega arith)
passes_at_place test (x ∷ xs) h =
    elim (test x) as (λ b. cond (not b) (1 + prefix_len (λ y. not (test y)) xs) 0 < length (x ∷ xs)
    → (b || list_any test xs) ≡ true) [ true ↦ λ _. refl | false ↦ λ h. passes_at_place test xs (omega arith) ] h

pub passes_nowhere : (test : ℕ → Bool) (xs : List ℕ) → position_or_len test xs ≡ length xs → list_any test xs ≡ false
passes_nowhere test [] h = refl
passes_nowhere test (x ∷ xs) h =
    elim (test x) as (λ b. cond (not b) (1 + prefix_len (λ y. not (test y)) xs) 0 ≡ length (x ∷ xs)
    → (b || list_any test xs) ≡ false) [ true ↦ λ h. absurd (omega arith) | false ↦ λ h. passes_nowhere test xs (omega arith) ] h

pub first_uncut : (part : List ℕ) → position_or_len is_slash part ≡ length part → submodule_of part ≡ None
first_uncut part h =
    ap (λ b. cond b (Some (before_first is_slash part, submodule (after_first is_slash part))) None) (passes_nowhere is_slash part h)

no_slash : (xs : List ℕ) → ((i : ℕ) → i < length xs → get_or xs i 0 ≢ 47) → list_any is_slash xs ≡ false
no_slash [] h = refl
no_slash (x ∷ xs) h =
    elim (x == 47) as (λ b. (x == 47) ≡ b → (b || list_any is_slash xs) ≡ false) [
      | true ↦ λ e. absurd (h 0 (omega arith) (eqb-true x 47 e))
      | false ↦ λ _. no_slash xs (λ i below. h (suc i) (omega arith))
    ] refl

pub last_uncut : (name : List ℕ) → NoCharPasses (λ d. d == 47) name → time_zone_of name ≡ None
last_uncut name h =
    ap (λ b. cond b (Some (before_last is_slash name, time_zone (after_last is_slash name))) None)
    (no_slash name (λ i below. NoCharPasses-char 47 name i h (lit< tt) below))

apart_from_slash : (x : ℕ) → (x ≡ 47 → ⊥) → not (is_slash x) ≡ true
apart_from_slash x h =
    elim (x == 47) as (λ b. (x == 47) ≡ b → not b ≡ true) [ true ↦ λ e. absurd (h (eqb-true x 47 e)) | false ↦ λ _. refl ] refl

-- the bytes from the last slash on
after_slash : (name : List ℕ) (j : ℕ) → 0 < j → j ≤ length name → NoCharPasses (λ d. d == 47) (drop j name) → get_or name (j - 1) 0 ≡ 47
    → suffix_len (λ b. not (is_slash b)) name ≡ length name - j
after_slash name j some within h at =
    suffix_len_is (λ b. not (is_slash b)) name j 0 within
    (λ k from below.
    let there : get_or (drop j name) (k - j) 0 ≡ get_or name k 0 =
    get_or-drop j name (k - j) 0 ∙ ap (λ n. get_or name n 0) (omega arith) in
    let inside : k - j < length (drop j name) = omega (arith, length-drop j name) in
    apart_from_slash (get_or name k 0) (λ e. NoCharPasses-char 47 (drop j name) (k - j) h (lit< tt) inside (there ∙ e)))
    (λ _. ap (λ b. not (is_slash b)) at)

pub last_cut : (name : List ℕ) (i j : ℕ) → NoCharPasses (λ d. d == 47) (drop j name) → HasCharAt 47 name i j → j ≤ length name
    → Some (take i name, time_zone (drop j name)) ≡ time_zone_of name
last_cut name i j h at within =
    let next : j ≡ i + 1 = at.ends in
    let slash : get_or name i 0 ≡ 47 = at.byte (lit< tt) in
    let rest = after_slash name j (omega arith) within h (ap (λ n. get_or name n 0) (omega arith) ∙ slash) in
    let front : i ≡ length name - suffix_len (λ b. not (is_slash b)) name - 1 = omega (arith, rest) in
    let back : j ≡ length name - suffix_len (λ b. not (is_slash b)) name = omega (arith, rest) in
    let has : list_any is_slash name ≡ true = list_any_at is_slash name i 0 (omega arith) (ap is_slash slash) in
    (λ k. Some (take (front k) name, time_zone (drop (back k) name)))
    ∙ ap (λ b. cond b (Some (before_last is_slash name, time_zone (after_last is_slash name))) None) (sym has)
