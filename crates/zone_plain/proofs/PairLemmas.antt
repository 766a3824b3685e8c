-- Pairs, each once, and their numbers.
use Rattle.std.{proofs.Common.{◌≡◌, ◌+◌, Bool, true, false, cond, not, List, [], ◌∷◌, ◌++◌, map, refl, ap, ◌∙◌}, specs.Prelude.{◌||◌}, specs.List.{list_any, position_or_len}, proofs.lemmas.List.{map-append}}
use Rattle.indexmap.specs.IndexSet.{insert_key}
use Rattle.zone_table.specs.Values.{LineValue}
use Rattle.zone_plain.specs.{PairLaws.{pair_itself, among_joined}, Pairs.{Pair, Asked, under, asked, is_same, is_among, with_pair, number_of, joined_by, pairs_from}, Shown.{pair_shown}}
use Rattle.zone_plain.specs.declared.asked.Pair as code
use Rattle.zone_plain.specs.contracts.asked.PairPartialEq.TheImpl as same

same_shown : (a b : code.Pair) → same.ghosts.eq a b ≡ is_same (pair_shown a) (pair_shown b)
same_shown a b = refl

pub any_shown : (pair : code.Pair) (pairs : List code.Pair) → list_any (same.ghosts.eq pair) pairs ≡ list_any (is_same (pair_shown pair)) (map pair_shown pairs)
any_shown pair [] = refl
any_shown pair (p ∷ pairs) = λ i. same_shown pair p i || any_shown pair pairs i

pub place_shown : (pair : code.Pair) (pairs : List code.Pair)
    → position_or_len (same.ghosts.eq pair) pairs ≡ number_of (map pair_shown pairs) (pair_shown pair)
place_shown pair [] = refl
place_shown pair (p ∷ pairs) = λ i. cond (not (same_shown pair p i)) (1 + place_shown pair pairs i) 0

-- a pair that is inserted among some pairs
pub shown_insert : (pairs : List code.Pair) (pair : code.Pair) → map pair_shown (insert_key same.ghosts.eq pairs pair) ≡ with_pair (map pair_shown pairs) (pair_shown pair)
shown_insert pairs pair =
    by_test (list_any (same.ghosts.eq pair) pairs) ∙ ap (λ b. cond b (map pair_shown pairs) (map pair_shown pairs ++ pair_shown pair ∷ [])) (any_shown pair pairs)
  where
    by_test : (b : Bool) → map pair_shown (cond b pairs (pairs ++ pair ∷ [])) ≡ cond b (map pair_shown pairs) (map pair_shown pairs ++ pair_shown pair ∷ [])
    by_test true = refl
    by_test false = map-append pair_shown pairs (pair ∷ [])

-- one that is among them keeps its number
stays : (pairs more : List Pair) (pair : Pair) → is_among pair pairs ≡ true → number_of (pairs ++ more) pair ≡ number_of pairs pair
stays [] more pair e = absurd (cc)
stays (p ∷ pairs) more pair e = here (is_same pair p) e (λ in_rest. stays pairs more pair in_rest)
  where
    here : (b : Bool) → (b || is_among pair pairs) ≡ true → (is_among pair pairs ≡ true → number_of (pairs ++ more) pair ≡ number_of pairs pair)
        → cond (not b) (1 + number_of (pairs ++ more) pair) 0 ≡ cond (not b) (1 + number_of pairs pair) 0
    here true e rest = refl
    here false e rest = ap (λ n. 1 + n) (rest e)

-- the number of one that is added is that of the place past the last
last_number : (pairs : List Pair) (pair : Pair) → is_among pair pairs ≡ false → number_of (pairs ++ pair ∷ []) pair ≡ number_of pairs pair
last_number [] pair e = ap (λ b. cond (not b) 1 0) (pair_itself pair)
last_number (p ∷ pairs) pair e = here (is_same pair p) e (λ in_rest. last_number pairs pair in_rest)
  where
    here : (b : Bool) → (b || is_among pair pairs) ≡ false → (is_among pair pairs ≡ false → number_of (pairs ++ pair ∷ []) pair ≡ number_of pairs pair)
        → cond (not b) (1 + number_of (pairs ++ pair ∷ []) pair) 0 ≡ cond (not b) (1 + number_of pairs pair) 0
    here true e rest = absurd (cc)
    here false e rest = ap (λ n. 1 + n) (rest e)

pub number_with : (pairs : List Pair) (pair : Pair) → number_of (with_pair pairs pair) pair ≡ number_of pairs pair
number_with pairs pair = by_test (is_among pair pairs) refl
  where
    by_test : (b : Bool) → is_among pair pairs ≡ b → number_of (cond b pairs (pairs ++ pair ∷ [])) pair ≡ number_of pairs pair
    by_test true e = refl
    by_test false e = last_number pairs pair e

number_with_more : (pairs : List Pair) (more pair : Pair) → is_among pair pairs ≡ true → number_of (with_pair pairs more) pair ≡ number_of pairs pair
number_with_more pairs more pair e = by_test (is_among more pairs)
  where
    by_test : (b : Bool) → number_of (cond b pairs (pairs ++ more ∷ [])) pair ≡ number_of pairs pair
    by_test true = refl
    by_test false = stays pairs (more ∷ []) pair e

number_joined : (a : Asked) (pairs : List Pair) (pair : Pair) → is_among pair pairs ≡ true → number_of (joined_by a pairs) pair ≡ number_of pairs pair
number_joined (under parts more) pairs pair e = number_with_more pairs more pair e
number_joined _ pairs pair e = refl

-- a pair that is among them has its number for good
pub number_kept : (values : List LineValue) (pairs : List Pair) (pair : Pair) → is_among pair pairs ≡ true
    → number_of (pairs_from pairs values) pair ≡ number_of pairs pair
unfolding pairs_from
number_kept [] pairs pair e = refl
number_kept (v ∷ values) pairs pair e =
    number_kept values (joined_by (asked v) pairs) pair (among_joined pair (asked v) pairs e) ∙ number_joined (asked v) pairs pair e
