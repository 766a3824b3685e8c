-- What a search finds passes what all pass, and what stands at a place of a list.
use Rattle.std.{proofs.Common.{◌≡◌, ℕ, suc, ◌+◌, ◌<◌, Bool, true, false, cond, List, [], ◌∷◌, length, get_or, drop, find, Some, IfSome, IsTrue, sym, ◌∙◌, drop-cons, add-one}, specs.List.{list_all}, proofs.lemmas.Bool.{and_parts}}

-- of items that all pass one test, the first that passes another passes the one
pub found_passes : {X : Type 0} (test passes : X → Bool) (xs : List X) → list_all passes xs ≡ true → IfSome (find test xs) (λ x. IsTrue (passes x))
found_passes test passes [] all = tt
found_passes test passes (x ∷ xs) all =
    let both : (passes x ≡ true) × (list_all passes xs ≡ true) = and_parts (passes x) _ all in
    by (test x) both.0 (found_passes test passes xs both.1)
  where
    by : (b : Bool) → passes x ≡ true → IfSome (find test xs) (λ x. IsTrue (passes x))
        → IfSome (cond b (Some x) (find test xs)) (λ x. IsTrue (passes x))
    by true here there = here
    by false here there = there

-- a list from the item that stands at i
pub from_here : {X : Type 0} (xs : List X) (i : ℕ) (x : X) → i < length xs → x ≡ get_or xs i x → drop i xs ≡ x ∷ drop (i + 1) xs
from_here xs i x l is =
    let rest : drop i xs ≡ get_or xs i x ∷ drop (suc i) xs = drop-cons xs i x l in
    rest ∙ (λ k. sym is k ∷ drop (sym (add-one i) k) xs)
