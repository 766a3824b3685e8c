-- What `keyed` has at a text, and after a change at one text.
use Rattle.std.proofs.{Common.{◌≡◌, ℕ, Bool, true, List, [], ◌∷◌, Some, cond, refl, sym, ◌∙◌, subst, string_bytes}, lemmas.List.Sums.{AllPass-from_list_all, list_all-from_AllPass}, lemmas.Map.Text.{is_eq-slice_cmp, hash_map_updates_text}}
use Rattle.std.proofs.lemmas.Map.Views.{All-values_from_lookup, IfSome-lookup_from_All}
use Rattle.std.specs.{Prelude.{IfSome}, declared.string.String.{String}, List.{IsDistinct, list_all}, Map.{lookup, keys_of, values_of}, Str.{bytes_eq}, String.{string_eq, string_eq_equiv}, Cmp.Lexicographic.{nat_list_cmp_total}, HashMap.{HashMap, UpdatesBy}}
use Rattle.std.specs.FinMap.{FinMap, get, insert, find, same_map, get-insert, get-from_entries, slice_cmp-IsAntisymmetric, nat_cmp-IsAntisymmetric}
use Rattle.basics.specs.{Keyed.{text_cmp, keyed, by_bytes, EachPasses}, KeyedLaws.{tied_texts}}

find-by_bytes : {Y X : Type 0} (es : List (String Y × X)) (q : List ℕ)
    → find text_cmp q (by_bytes es) ≡ lookup (λ k. bytes_eq q (string_bytes k)) es
find-by_bytes [] q = refl
find-by_bytes (e ∷ es) q = λ i. cond (is_eq-slice_cmp q (string_bytes e.0) i) (Some e.1) (find-by_bytes es q i)

-- the finite map has at a text what the hashed map has
pub get-keyed : {Y X : Type 0} (es : List (String Y × X)) (q : List ℕ) → get (keyed es) q ≡ lookup (λ k. bytes_eq q (string_bytes k)) es
get-keyed es q = get-from_entries nat_list_cmp_total (by_bytes es) q ∙ find-by_bytes es q

-- maps that answer alike are one
pub same_texts : {X : Type 0} (m n : FinMap text_cmp X) → ((q : List ℕ) → get m q ≡ get n q) → m ≡ n
same_texts m n h = same_map nat_list_cmp_total (slice_cmp-IsAntisymmetric nat_cmp-IsAntisymmetric) m n h

-- a value put at a text
pub keyed_updates : {Y X S : Type 0} (bs : List ℕ) (m n : HashMap (String Y) X S) (v : X)
    → UpdatesBy string_eq (λ k. bytes_eq bs (string_bytes k)) m n (Some v) → keyed n.entries ≡ insert (keyed m.entries) bs v
keyed_updates bs m n v h = same_texts _ _ (λ q.
    get-keyed n.entries q ∙ hash_map_updates_text bs m n (Some v) h q
    ∙ (λ i. cond (sym (tied_texts q bs) i) (Some v) (sym (get-keyed m.entries q) i))
    ∙ sym (get-insert nat_list_cmp_total (keyed m.entries) bs v q))

-- a test of all values is a test of what each text finds
pub each_passes : {Y X : Type 0} (test : X → Bool) (es : List (String Y × X)) → list_all test (values_of es) ≡ true
    → EachPasses test (keyed es)
each_passes test es all name =
    let passes =
    IfSome-lookup_from_All (λ v. test v ≡ true) (λ k. bytes_eq name (string_bytes k)) es
    (AllPass-from_list_all test (values_of es) all) in
    subst (λ found. IfSome found (λ v. test v ≡ true)) (sym (get-keyed es name)) passes

pub all_pass : {Y X : Type 0} (test : X → Bool) (es : List (String Y × X)) → IsDistinct string_eq (keys_of es)
    → EachPasses test (keyed es)
    → list_all test (values_of es) ≡ true
all_pass {Y} test es distinct each =
    let found =
    λ (k : String Y). subst (λ found. IfSome found (λ v. test v ≡ true)) (get-keyed es (string_bytes k)) (each (string_bytes k)) in
    list_all-from_AllPass test (values_of es) (All-values_from_lookup string_eq_equiv (λ v. test v ≡ true) es distinct found)
