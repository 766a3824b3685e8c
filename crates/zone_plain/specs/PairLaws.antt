-- Pairs, each once: which are among them.
use Rattle.std.proofs.{Common.{◌≡◌, Bool, true, false, cond, List, [], ◌∷◌, ◌++◌, refl, ap, ◌∙◌}, Math.Bool.{or-false, or-true}, lemmas.Bool.{and_parts}, lemmas.Bool.Decides.{Decides-int_eq}, lemmas.List.Folds.{list_any-append}}
use Rattle.std.proofs.lemmas.Slice.Eq.{bytes_eq-Decides}
use Rattle.std.specs.{Prelude.{◌&&◌, ◌||◌, bytes_eq}, Ordering.{int_eq}}
use Rattle.zone_plain.specs.Pairs.{Pair, Asked, under, is_same, is_among, with_pair, joined_by}

-- two pairs that are the same are one
pub same_pair : (a b : Pair) → is_same a b ≡ true → a ≡ b
same_pair a b h =
    let both = and_parts (int_eq a.offset b.offset) (bytes_eq a.rules b.rules) h in
    let offset = (Decides-int_eq a.offset b.offset).0 both.0 in
    let rules = (bytes_eq-Decides a.rules b.rules).0 both.1 in
    (λ i. record { rules = rules i; offset = offset i })

pub pair_itself : (a : Pair) → is_same a a ≡ true
pair_itself a = (λ i. (Decides-int_eq a.offset a.offset).1 refl i && (bytes_eq-Decides a.rules a.rules).1 refl i)

pub among_more : (pair more : Pair) (pairs : List Pair) → is_among pair (pairs ++ more ∷ []) ≡ (is_among pair pairs || is_same pair more)
among_more pair more pairs =
    list_any-append (is_same pair) pairs (more ∷ []) ∙ ap (λ b. is_among pair pairs || b) (or-false (is_same pair more))

-- a pair that a line asks for is among them then
pub among_with : (pairs : List Pair) (pair : Pair) → is_among pair (with_pair pairs pair) ≡ true
among_with pairs pair = by_test (is_among pair pairs) refl
  where
    by_test : (b : Bool) → is_among pair pairs ≡ b → is_among pair (cond b pairs (pairs ++ pair ∷ [])) ≡ true
    by_test true e = e
    by_test false e = among_more pair pair pairs ∙ ap (λ b. is_among pair pairs || b) (pair_itself pair) ∙ or-true (is_among pair pairs)

-- and those that were stay among them
pub among_joined : (pair : Pair) (a : Asked) (pairs : List Pair) → is_among pair pairs ≡ true → is_among pair (joined_by a pairs) ≡ true
among_joined pair (under parts more) pairs e = by_test (is_among more pairs)
  where
    by_test : (b : Bool) → is_among pair (cond b pairs (pairs ++ more ∷ [])) ≡ true
    by_test true = e
    by_test false = among_more pair more pairs ∙ ap (λ b. b || is_same pair more) e
among_joined pair _ pairs e = e
