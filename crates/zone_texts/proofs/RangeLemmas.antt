-- Texts of numbers and of items in a row.
use Rattle.std.proofs.{Common.{◌≡◌, ℕ, ◌+◌, ◌<◌, ◌≤◌, List, [], ◌∷◌, ◌++◌, length, map, map-id, slice_index_or, take, append_assoc, append-nil, ℤ, pos, to_z, of_z, to_z-of_z, FitsSigned, w64, ap, sym, ◌∙◌}, lemmas.Grind.{flat_map-append}}
use Rattle.std.proofs.lemmas.List.{FromFn.{map-range_with_len_more}, map-append, take_all, take_more, Sums.{fold-append}}
use Rattle.std.specs.List.{flat_map, fold, range_with_len}

-- a text of one more
pub one_more : (f : ℕ → List ℕ) (old now new : List ℕ) (a n m k : ℕ) → a + n ≡ m → k ≡ n + 1 → now ≡ old ++ flat_map f (range_with_len a n)
    → new ≡ now ++ f m → new ≡ old ++ flat_map f (range_with_len a k)
one_more f old now new a n m k here next was added =
    added ∙ ap (λ l. l ++ f m) was ∙ append_assoc old (flat_map f (range_with_len a n)) (f m)
    ∙ ap (λ l. old ++ l) (ap (λ l. flat_map f (range_with_len a n) ++ l) (sym (append-nil (f m)))
    ∙ sym (flat_map-append f (range_with_len a n) (m ∷ [])) ∙ ap (flat_map f) more ∙ ap (λ l. flat_map f (range_with_len a l)) (sym next))
  where
    more : range_with_len a n ++ m ∷ [] ≡ range_with_len a (n + 1)
    more = ap (λ l. l ++ m ∷ []) (sym (map-id (range_with_len a n))) ∙ sym (map-range_with_len_more (λ i. i) a n m here) ∙ map-id (range_with_len a (n + 1))

-- one item more
pub fold_more : {A B C : Type 0} → (f : B → C → B) (show : A → C) (start : B) (xs : List A) (n : ℕ) (d : A) → n < length xs
    → fold f start (map show (take (n + 1) xs)) ≡ f (fold f start (map show (take n xs))) (show (slice_index_or xs n d))
fold_more f show start xs n d l =
    ap (λ ys. fold f start (map show ys)) (take_more xs n d l)
    ∙ ap (fold f start) (map-append show (take n xs) (slice_index_or xs n d ∷ []))
    ∙ fold-append f start (map show (take n xs)) (show (slice_index_or xs n d) ∷ [])

-- three texts in a row
pub three : (old first second third a b c : List ℕ) → first ≡ old ++ a → second ≡ first ++ b → third ≡ second ++ c → third ≡ old ++ ((a ++ b) ++ c)
three old first second third a b c d e f =
    f ∙ ap (λ l. l ++ c) (e ∙ ap (λ l. l ++ b) d ∙ append_assoc old a b) ∙ append_assoc old (a ++ b) c

-- four
pub four : (old first second third fourth a b c d : List ℕ) → first ≡ old ++ a → second ≡ first ++ b → third ≡ second ++ c → fourth ≡ third ++ d
    → fourth ≡ old ++ (((a ++ b) ++ c) ++ d)
four old first second third fourth a b c d e f g h =
    h ∙ ap (λ l. l ++ d) (three old first second third a b c e f g) ∙ append_assoc old ((a ++ b) ++ c) d

-- what one item more adds, as items are shown
pub flat_more : {A B C : Type 0} → (f : B → List C) (show : A → B) (xs : List A) (n : ℕ) (d : A) → n < length xs
    → flat_map f (map show (take (n + 1) xs)) ≡ flat_map f (map show (take n xs)) ++ f (show (slice_index_or xs n d))
flat_more f show xs n d l =
    let x = slice_index_or xs n d in
    ap (λ ys. flat_map f (map show ys)) (take_more xs n d l) ∙ ap (flat_map f) (map-append show (take n xs) (x ∷ []))
    ∙ flat_map-append f (map show (take n xs)) (show x ∷ []) ∙ ap (λ t. flat_map f (map show (take n xs)) ++ t) (append-nil (f (show x)))

-- a text of one item more, and of all
pub shown_more : {A B : Type 0} → (f : B → List ℕ) (show : A → B) (old now new : List ℕ) (xs : List A) (n : ℕ) (d : A) → n < length xs
    → now ≡ old ++ flat_map f (map show (take n xs)) → new ≡ now ++ f (show (slice_index_or xs n d)) → new ≡ old ++ flat_map f (map show (take (n + 1) xs))
shown_more f show old now new xs n d l was added =
    let x = show (slice_index_or xs n d) in
    added ∙ ap (λ t. t ++ f x) was ∙ append_assoc old (flat_map f (map show (take n xs))) (f x) ∙ ap (λ t. old ++ t) (sym (flat_more f show xs n d l))

pub all_shown : {A B : Type 0} → (f : B → List ℕ) (show : A → B) (old now : List ℕ) (xs : List A) (n : ℕ) → length xs ≤ n
    → now ≡ old ++ flat_map f (map show (take n xs)) → now ≡ old ++ flat_map f (map show xs)
all_shown f show old now xs n l was = was ∙ ap (λ ys. old ++ flat_map f (map show ys)) (take_all n xs l)

-- the same of items as they are
pub item_more : {A : Type 0} → (f : A → List ℕ) (old now new : List ℕ) (xs : List A) (n : ℕ) (d : A) → n < length xs
    → now ≡ old ++ flat_map f (take n xs) → new ≡ now ++ f (slice_index_or xs n d) → new ≡ old ++ flat_map f (take (n + 1) xs)
item_more f old now new xs n d l was added =
    shown_more f (λ x. x) old now new xs n d l (was ∙ ap (λ ys. old ++ flat_map f ys) (sym (map-id (take n xs)))) added
    ∙ ap (λ ys. old ++ flat_map f ys) (map-id (take (n + 1) xs))

pub all_items : {A : Type 0} → (f : A → List ℕ) (old now : List ℕ) (xs : List A) (n : ℕ) → length xs ≤ n → now ≡ old ++ flat_map f (take n xs)
    → now ≡ old ++ flat_map f xs
all_items f old now xs n l was = was ∙ ap (λ ys. old ++ flat_map f ys) (take_all n xs l)

-- the same of seconds as the code passes them
pub second_more : (f : ℤ → List ℕ) (old now new : List ℕ) (xs : List ℤ) (n : ℕ) → n < length xs → FitsSigned w64 (slice_index_or xs n (pos 0))
    → now ≡ old ++ flat_map f (take n xs) → new ≡ now ++ f (to_z w64 (of_z w64 (slice_index_or xs n (pos 0)))) → new ≡ old ++ flat_map f (take (n + 1) xs)
second_more f old now new xs n l fits was added = item_more f old now new xs n (pos 0) l was (added ∙ ap (λ x. now ++ f x) (to_z-of_z fits))
