-- The entries of a hashed map and those of its finite map are the same, in another order.
use Rattle.std.proofs.Common.{◌≡◌, Bool, false, not, List, [], ◌∷◌, map, Option, Some, None, cond, refl, sym, ap, ◌∙◌, subst, string_bytes, length, arith}
use Rattle.std.proofs.lemmas.{List.Sorted.{IsPermutation-refl, IsPermutation-sym, IsPermutation-trans, IsPermutation-cons, IsPermutation-middle, list_any-IsPermutation}, Map.Keys.{IsDistinct-head, IsDistinct-tail}, Map.Text.{is_eq-slice_cmp}}
use Rattle.std.specs.{declared.cmp.Ordering.{Ordering}, declared.cmp.Ordering.TheVariants.{Less, Equal, Greater}, declared.string.String.{String}, Cmp.Lexicographic.{nat_list_cmp_total}}
use Rattle.std.specs.{FinMap.{empty, entries, entries-insert, get-entries, get-from_entries, len-entries, len-empty, find, put}, FinMap.Entries.{by_order}, List.{AllByRecursion, IsDistinct, list_all}, List.Sorted.{IsPermutation}, Map.{keys_of}}
use Rattle.std.specs.{Ordering.{is_eq}, String.{string_eq}}
use Rattle.basics.specs.{Keyed.{text_cmp, keyed, by_bytes}, TestLaws.{all_by_any}}

nothing : {A : Type 0} (xs : List A) → length xs ≡ 0 → [] ≡ xs
nothing [] e = refl
nothing (x ∷ xs) e = absurd (omega arith)

not_found : {X : Type 0} (x : X) (rest : Option X) (P : Type 0) → Some x ≡ None → P
not_found x rest P e = cc

-- an entry with a new key only comes to stand among the others
put_permutes : {K X : Type 0} (R : K → K → Ordering) (k : K) (v : X) (es : List (K × X)) → find R k es ≡ None
    → IsPermutation (put R k v es) ((k, v) ∷ es)
put_permutes R k v [] none = IsPermutation-refl _
put_permutes R k v (e ∷ es) none =
    elim (R k e.0) as (λ r. cond (is_eq r) (Some e.1) (find R k es) ≡ None
    → IsPermutation (by_order r ((k, v) ∷ e ∷ es) ((e.0, v) ∷ es) (e ∷ put R k v es)) ((k, v) ∷ e ∷ es)) [
      | Less ↦ λ _. IsPermutation-refl _
      | Equal ↦ λ found. not_found e.1 None _ found
      | Greater ↦ λ none. IsPermutation-trans _ (e ∷ (k, v) ∷ es) _ (IsPermutation-cons e _ _ (put_permutes R k v es none))
          (IsPermutation-sym _ _ (IsPermutation-middle ((k, v) ∷ []) e es))
    ] none

absent : {Y X : Type 0} (k : String Y) (es : List (String Y × X)) → AllByRecursion (λ y. string_eq k y ≡ false) (keys_of es)
    → find text_cmp (string_bytes k) (by_bytes es) ≡ None
absent k [] apart = refl
absent k (e ∷ es) apart = λ i. cond ((is_eq-slice_cmp (string_bytes k) (string_bytes e.0) ∙ apart.0) i) (Some e.1) (absent k es apart.1 i)

pub entries-keyed : {Y X : Type 0} (es : List (String Y × X)) → IsDistinct string_eq (keys_of es)
    → IsPermutation (entries (keyed es)) (by_bytes es)
entries-keyed [] d =
    subst (λ xs. IsPermutation xs []) (nothing (entries empty) (sym (len-entries empty) ∙ len-empty text_cmp _)) (IsPermutation-refl [])
entries-keyed (e ∷ es) d =
    let none =
    sym (get-entries (keyed es) (string_bytes e.0)) ∙ get-from_entries nat_list_cmp_total (by_bytes es) (string_bytes e.0)
    ∙ absent e.0 es (IsDistinct-head string_eq e.0 (keys_of es) d) in
    let more =
    IsPermutation-trans _ ((string_bytes e.0, e.1) ∷ entries (keyed es)) _
    (put_permutes text_cmp (string_bytes e.0) e.1 (entries (keyed es)) none)
    (IsPermutation-cons _ _ _ (entries-keyed es (IsDistinct-tail string_eq e.0 (keys_of es) d))) in
    subst (λ xs. IsPermutation xs (by_bytes (e ∷ es))) (sym (entries-insert nat_list_cmp_total (keyed es) (string_bytes e.0) e.1)) more

pub keys-by_bytes : {Y X : Type 0} (es : List (String Y × X)) → map (λ e. e.0) (by_bytes es) ≡ map string_bytes (keys_of es)
keys-by_bytes [] = refl
keys-by_bytes (e ∷ es) = ap (λ ks. string_bytes e.0 ∷ ks) (keys-by_bytes es)

pub values-by_bytes : {Y X : Type 0} (es : List (String Y × X)) → map (λ e. e.1) (by_bytes es) ≡ map (λ e. e.1) es
values-by_bytes [] = refl
values-by_bytes (e ∷ es) = ap (λ vs. e.1 ∷ vs) (values-by_bytes es)

-- a test passes at each item whatever their order
pub list_all-permuted : {X : Type 0} (test : X → Bool) (xs ys : List X) → IsPermutation xs ys → list_all test xs ≡ list_all test ys
list_all-permuted test xs ys h = all_by_any test xs ∙ ap not (list_any-IsPermutation (λ x. not (test x)) xs ys h) ∙ sym (all_by_any test ys)
