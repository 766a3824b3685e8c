-- What a map holds at each text after a change at one text.
use Rattle.std.proofs.{Common.{◌≡◌, ℕ, true, false, List, [], ◌∷◌, ◌++◌, Some, unwrap_or, cond, refl, sym, ap, ◌∙◌}, lemmas.List.{append-nil}, lemmas.Map.Text.{is_eq-slice_cmp}}
use Rattle.std.specs.{Str.{bytes_eq}, Cmp.{eq_by_cmp_equiv}, Cmp.Lexicographic.{nat_list_cmp_total, bytes_decides}, FinMap.{FinMap, get, insert, get-insert}, Ordering.{eq_by_cmp}}
use Rattle.basics.specs.{Keyed.{text_cmp}, Listed.{listed}}

pub tied_texts : (q bs : List ℕ) → eq_by_cmp text_cmp q bs ≡ bytes_eq bs q
tied_texts q bs = (eq_by_cmp_equiv nat_list_cmp_total).symm q bs ∙ is_eq-slice_cmp bs q

-- what was put in, at any text
pub get-inserted : {X : Type 0} (m : FinMap text_cmp X) (name n : List ℕ) (v : X)
    → get (insert m name v) n ≡ cond (bytes_eq name n) (Some v) (get m n)
get-inserted m name n v = get-insert nat_list_cmp_total m name v n ∙ ap (λ b. cond b (Some v) (get m n)) (tied_texts n name)

listed_push : {X : Type 0} (xs : List X) (x : X) → Some (xs ++ x ∷ []) ≡ listed (xs ++ x ∷ [])
listed_push [] x = refl
listed_push (y ∷ xs) x = refl

unlisted : {X : Type 0} (xs : List X) → unwrap_or (listed xs) [] ≡ xs
unlisted [] = refl
unlisted (x ∷ xs) = refl

-- lists by their names, after an item was put at the end of one of them
pub appended : {X : Type 0} (m : FinMap text_cmp (List X)) (f : List ℕ → List X) (name : List ℕ) (item : X)
    → ((n : List ℕ) → get m n ≡ listed (f n))
    → (n : List ℕ) → get (insert m name (unwrap_or (get m name) [] ++ item ∷ [])) n
    ≡ listed (f n ++ cond (bytes_eq name n) (item ∷ []) [])
appended m f name item h n =
    get-inserted m name n _
    ∙ elim (bytes_eq name n)
    as (λ b. bytes_eq name n ≡ b
    → cond b (Some (unwrap_or (get m name) [] ++ item ∷ [])) (get m n) ≡ listed (f n ++ cond b (item ∷ []) [])) [
      | true ↦ λ same.
          ap (λ o. Some (unwrap_or o [] ++ item ∷ [])) (h name) ∙ ap (λ xs. Some (xs ++ item ∷ [])) (unlisted (f name))
          ∙ listed_push (f name) item ∙ ap (λ k. listed (f k ++ item ∷ [])) ((bytes_decides name n).0 same)
      | false ↦ λ apart. h n ∙ ap listed (sym (append-nil (f n)))
    ] refl
