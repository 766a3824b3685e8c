-- The distinct items so far, and those of what is left.
use Rattle.std.{proofs.Common.{◌≡◌, ℕ, ◌+◌, ◌<◌, ◌≤◌, List, [], ◌∷◌, ◌++◌, length, drop, map, get_or, sym, ap, ◌∙◌, refl, Bool, true, false, cond, ◌||◌, arith, length-append}, specs.List.{list_any}, proofs.lemmas.List.{drop_more, drop_all, map-append}}
use Rattle.zone_tzif_core.specs.{Collected.{IsTooMany}, Tzif.{added, each_once}, declared.values.WriteFault.{WriteFault}, declared.values.WriteFault.TheVariants.{Times, Types, Names, Offset, Footer, NoMemory}}

-- a test of what items show
pub any_seen : {A B : Type 0} (test : A → Bool) (view : B → A) (items : List B) → list_any test (map view items) ≡ list_any (λ item. test (view item)) items
any_seen test view [] = refl
any_seen test view (item ∷ items) = ap (λ more. test (view item) || more) (any_seen test view items)

-- the items so far and what is left of the source give what the whole source gives
abbrev pub OnceSoFar : {A B : Type 0} → (B → A) → (A → A → Bool) → List A → List B → ℕ → List A → Type 0
OnceSoFar view same begun all i items = each_once same items (map view (drop i all)) ≡ each_once same begun (map view all)

pub once_kept : {A B : Type 0} (view : B → A) (same : A → A → Bool) (begun : List A) (all : List B) (i : ℕ) (items grown : List A) (x : B) → i < length all → x ≡ get_or all i x → grown ≡ added same items (view x) → OnceSoFar view same begun all i items → OnceSoFar view same begun all (i + 1) grown
once_kept view same begun all i items grown x within at more is =
    let front = drop_more all i x within ∙ ap (λ y. y ∷ drop (i + 1) all) (sym at) in
    ap (λ l. each_once same l (map view (drop (i + 1) all))) more ∙ sym (ap (λ l. each_once same items (map view l)) front) ∙ is

pub once_end : {A B : Type 0} (view : B → A) (same : A → A → Bool) (begun : List A) (all : List B) (i : ℕ) (items : List A) → length all ≤ i → OnceSoFar view same begun all i items → items ≡ each_once same begun (map view all)
once_end view same begun all i items over is = sym (ap (λ l. each_once same items (map view l)) (drop_all i all over)) ∙ is

-- a new item is added at the end
pub added_new : {A B : Type 0} (view : B → A) (same : A → A → Bool) (items listed grown : List B) (x : B) → false ≡ list_any (λ other. same (view x) (view other)) listed → listed ≡ items → grown ≡ items ++ x ∷ [] → map view grown ≡ added same (map view items) (view x)
added_new view same items listed grown x absent is more =
    let test : list_any (same (view x)) (map view items) ≡ false = any_seen (same (view x)) view items ∙ ap (list_any (λ other. same (view x) (view other))) (sym is) ∙ sym absent in
    rw test (ap (map view) more ∙ map-append view items (x ∷ []))

-- no item is lost
longer : {A : Type 0} (same : A → A → Bool) (items : List A) (x : A) → length items ≤ length (added same items x)
longer same items x = by_test (list_any (same x) items)
  where
    by_test : (t : Bool) → length items ≤ length (cond t items (items ++ x ∷ []))
    by_test true = omega arith
    by_test false = omega (arith, length-append items (x ∷ []))

once_longer : {A : Type 0} (same : A → A → Bool) (items source : List A) → length items ≤ length (each_once same items source)
once_longer same items [] = omega arith
once_longer same items (x ∷ source) = omega (arith, longer same items x, once_longer same (added same items x) source)

-- what is found so far is no more than there is
pub no_more : {A B : Type 0} (view : B → A) (same : A → A → Bool) (begun : List A) (all : List B) (i : ℕ) (items : List A) → OnceSoFar view same begun all i items → length items ≤ length (each_once same begun (map view all))
no_more view same begun all i items is = omega (arith, once_longer same items (map view (drop i all)), ap length is)

pub too_many : (fault : WriteFault) (count all : ℕ) → count ≤ all → IsTooMany fault count → IsTooMany fault all
too_many Types count all more many = omega (arith, more, many)
too_many NoMemory count all more many = tt
too_many Times count all more many = absurd many
too_many Names count all more many = absurd many
too_many Offset count all more many = absurd many
too_many Footer count all more many = absurd many
