-- No name of a source begins with its mark, and the mark is short.
use Rattle.std.proofs.{Common.{◌≡◌, ℕ, zero, suc, ◌+◌, ◌*◌, ◌^◌, ◌≤◌, Bool, true, false, cond, List, [], ◌∷◌, ◌++◌, length, map, nat_lt, refl, sym, ap, ◌∙◌, arith}, Math.Nat.{pow-succ'}, lemmas.Bool.{and_parts, or_right, both_ways, ltb-true, ltb-false}}
use Rattle.std.proofs.lemmas.{Bool.Decides.{nat_tests}, List.{length-map}}
use Rattle.std.specs.{Prelude.{◌==◌, ◌||◌, bytes_eq, max}, List.{list_any}}
use Rattle.zone_table.specs.Values.{LineValue}
use Rattle.zone_plain_lines.specs.{Marks.{tails, rarer, ending_within, ending, mark}, Renamed.{ruleset_of, has_name, mark_of}}

-- the name is one of these
abbrev is_among : List (List ℕ) → List ℕ → Bool
is_among names name = list_any (λ n. bytes_eq n name) names

-- what stands behind a byte in one of the names is one of the tails
among_tails : (byte : ℕ) (names : List (List ℕ)) (rest : List ℕ) → is_among names (byte ∷ rest) ≡ true → is_among (tails byte names) rest ≡ true
among_tails byte [] rest among = absurd (both_ways false refl among)
among_tails byte ([] ∷ names) rest among = among_tails byte names rest among
among_tails byte ((x ∷ xs) ∷ names) rest among = by_test (bytes_eq (x ∷ xs) (byte ∷ rest)) refl among (among_tails byte names rest)
  where
    one_more : (b : Bool) → is_among (tails byte names) rest ≡ true → is_among (cond b (xs ∷ []) [] ++ tails byte names) rest ≡ true
    one_more true e = or_right (bytes_eq xs rest) _ e
    one_more false e = e

    by_test : (b : Bool) → bytes_eq (x ∷ xs) (byte ∷ rest) ≡ b → (b || is_among names (byte ∷ rest)) ≡ true
        → (is_among names (byte ∷ rest) ≡ true → is_among (tails byte names) rest ≡ true)
        → is_among (tails byte ((x ∷ xs) ∷ names)) rest ≡ true
    by_test true same among more =
        let both = and_parts (x == byte) (bytes_eq xs rest) same in
        ap (λ b. is_among (cond b (xs ∷ []) [] ++ tails byte names) rest) both.0
        ∙ ap (λ b. b || is_among (tails byte names) rest) both.1
    by_test false other among more = one_more (x == byte) (more among)

-- those that begin with either letter are no more than all
few : (names : List (List ℕ)) → length (tails 97 names) + length (tails 95 names) ≤ length names
few [] = omega arith
few ([] ∷ names) = let rest = few names in omega (arith, rest)
few ((x ∷ xs) ∷ names) = by_tests (x == 97) (x == 95) refl refl (few names)
  where
    by_tests : (s t : Bool) → (x == 97) ≡ s → (x == 95) ≡ t → length (tails 97 names) + length (tails 95 names) ≤ length names
        → length (cond s (xs ∷ []) [] ++ tails 97 names) + length (cond t (xs ∷ []) [] ++ tails 95 names)
        ≤ suc (length names)
    by_tests true true p q rest = absurd (grind (arith, nat_tests))
    by_tests true false p q rest = omega (arith, rest)
    by_tests false true p q rest = omega (arith, rest)
    by_tests false false p q rest = omega (arith, rest)

-- at most half of the names begin with the rarer letter
pub half : (names : List (List ℕ)) → length (tails (rarer names) names) + length (tails (rarer names) names) ≤ length names
half names = by_test (nat_lt (length (tails 97 names)) (length (tails 95 names))) refl (few names)
  where
    by_test : (b : Bool) → nat_lt (length (tails 97 names)) (length (tails 95 names)) ≡ b
        → length (tails 97 names) + length (tails 95 names) ≤ length names
        → length (tails (cond b 97 95) names) + length (tails (cond b 97 95) names) ≤ length names
    by_test true e all = let less = ltb-true _ _ e in omega (arith, less, all)
    by_test false e all = let no_less = ltb-false _ _ e in omega (arith, no_less, all)

-- no name goes on with its ending
ends : (count : ℕ) (names : List (List ℕ)) (rest : List ℕ) → length names ≤ count → is_among names (ending_within count names ++ rest) ≡ true → ⊥
unfolding ending_within
ends zero (name ∷ names) rest few among = absurd (omega (arith, few))
ends (suc count) (name ∷ names) rest few among =
    let left = half (name ∷ names) in
    ends count (tails (rarer (name ∷ names)) (name ∷ names)) rest (omega (arith, few, left))
    (among_tails (rarer (name ∷ names)) (name ∷ names) (ending_within count (tails (rarer (name ∷ names)) (name ∷ names)) ++ rest) among)
ends _ [] rest few among = absurd (both_ways false refl among)

-- no name begins with the mark
no_mark_among : (names : List (List ℕ)) (rest : List ℕ) → is_among names (mark names ++ rest) ≡ true → ⊥
no_mark_among names rest among =
    let all : length (tails 95 names) ≤ length (tails 95 names) = omega arith in
    ends (length (tails 95 names)) (tails 95 names) rest all
    (among_tails 95 names (ending (tails 95 names) ++ rest) among)

among_rulesets : (values : List LineValue) (name : List ℕ) → has_name values name ≡ is_among (map ruleset_of values) name
among_rulesets [] name = refl
among_rulesets (v ∷ values) name = ap (λ b. bytes_eq (ruleset_of v) name || b) (among_rulesets values name)

-- no name of a source begins with its mark
pub no_mark : (values : List LineValue) (rest : List ℕ) → has_name values (mark_of values ++ rest) ≡ true → ⊥
unfolding mark_of
no_mark values rest among =
    no_mark_among (map ruleset_of values) rest (sym (among_rulesets values (mark (map ruleset_of values) ++ rest)) ∙ among)

-- each letter halves the names
ending_short : (count : ℕ) (names : List (List ℕ)) → 2 ^ length (ending_within count names) ≤ max 1 (2 * length names)
unfolding ending_within
ending_short (suc count) (name ∷ names) =
    let left = half (name ∷ names) in
    let rest = ending_short count (tails (rarer (name ∷ names)) (name ∷ names)) in
    let double = pow-succ' 2 (length (ending_within count (tails (rarer (name ∷ names)) (name ∷ names)))) in
    omega (arith, left, rest, double)
ending_short _ _ = omega arith

-- a mark has at most two bytes more than the number of lines has halves
pub short_mark : (values : List LineValue) → 2 ^ length (mark_of values) ≤ max 2 (4 * length values)
unfolding mark_of
short_mark values =
    let behind = tails 95 (map ruleset_of values) in
    let rest = ending_short (length behind) behind in
    let double = pow-succ' 2 (length (ending behind)) in
    let begun = few (map ruleset_of values) in
    let all = length-map values ruleset_of in
    omega (arith, rest, double, begun, all)

-- as many letters as there are names are enough
enough : (m n : ℕ) (names : List (List ℕ)) → length names ≤ m → length names ≤ n → ending_within m names ≡ ending_within n names
unfolding ending_within
enough zero (suc n) (name ∷ names) p q = absurd (omega (arith, p))
enough (suc m) zero (name ∷ names) p q = absurd (omega (arith, q))
enough (suc m) (suc n) (name ∷ names) p q =
    let left = half (name ∷ names) in
    ap (λ letters. rarer (name ∷ names) ∷ letters)
    (enough m n (tails (rarer (name ∷ names)) (name ∷ names)) (omega (arith, left, p)) (omega (arith, left, q)))
enough _ _ _ p q = refl

-- an ending, letter by letter
pub next_letter : (name : List ℕ) (names : List (List ℕ))
    → ending (name ∷ names) ≡ rarer (name ∷ names) ∷ ending (tails (rarer (name ∷ names)) (name ∷ names))
unfolding ending_within
next_letter name names =
    let left = half (name ∷ names) in
    let fewer = tails (rarer (name ∷ names)) (name ∷ names) in
    ap (λ letters. rarer (name ∷ names) ∷ letters) (enough (length names) (length fewer) fewer (omega (arith, left)) (omega arith))
