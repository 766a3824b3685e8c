-- The instants of a local time, one after another.
use borrow.Author.Rules.{to_z-of_z_to}
use Rattle.std.proofs.{Common.{◌≡◌, ◌+◌, ◌<◌, ◌≤◌, ℕ, suc, zero, ℤ, SFits, to_z, of_z, w32, w64, List, [], ◌∷◌, ◌++◌, length, get_or, map, take, drop, refl, sym, ap, ◌∙◌, arith}, lemmas.List.{length-map}}
use Rattle.civil_base.specs.Instants.{nanos_of}
use Rattle.sefunjaro.{specs.Rooms.{filled, filled_at}, proofs.CaseLemmas.{no_zero, next}, proofs.RoomLemmas.{filled_more}}

take_one : {A : Type 0} → (all : List A) (n : ℕ) (x : A) (rest : List A) → drop n all ≡ x ∷ rest → take (suc n) all ≡ take n all ++ x ∷ []
take_one [] zero x rest e = absurd (no_zero (ap length e))
take_one [] (suc n) x rest e = absurd (no_zero (ap length e))
take_one (y ∷ all) zero x rest e = ap (λ l. take 1 l) e
take_one (y ∷ all) (suc n) x rest e = ap (λ l. y ∷ l) (take_one all n x rest e)

drop_one : {A : Type 0} → (all : List A) (n : ℕ) (x : A) (rest : List A) → drop n all ≡ x ∷ rest → drop (suc n) all ≡ rest
drop_one [] zero x rest e = absurd (no_zero (ap length e))
drop_one [] (suc n) x rest e = absurd (no_zero (ap length e))
drop_one (y ∷ all) zero x rest e = ap (λ l. drop 1 l) e
drop_one (y ∷ all) (suc n) x rest e = drop_one all n x rest e

length_taken : {A : Type 0} → (all : List A) (n : ℕ) (x : A) (rest : List A) → drop n all ≡ x ∷ rest → length (take n all) ≡ n
length_taken [] zero x rest e = refl
length_taken [] (suc n) x rest e = absurd (no_zero (ap length e))
length_taken (y ∷ all) zero x rest e = refl
length_taken (y ∷ all) (suc n) x rest e = ap suc (length_taken all n x rest e)

map_more : {A B : Type 0} → (f : A → B) (xs : List A) (x : A) → map f (xs ++ x ∷ []) ≡ map f xs ++ f x ∷ []
map_more f [] x = refl
map_more f (y ∷ xs) x = ap (λ l. f y ∷ l) (map_more f xs x)

-- what is left from a place on begins with the item there
pub drop_here : {A : Type 0} → (all : List A) (n : ℕ) (d : A) → n < length all → drop n all ≡ get_or all n d ∷ drop (suc n) all
drop_here [] n d l = absurd (omega (arith, l))
drop_here (x ∷ all) zero d l = refl
drop_here (x ∷ all) (suc n) d l = drop_here all n d (omega (arith, l))

pub dropped : {A : Type 0} → (all : List A) (n : ℕ) (x : A) (rest : List A) → drop n all ≡ x ∷ rest → rest ≡ drop (n + 1) all
dropped all n x rest e = sym (drop_one all n x rest e) ∙ ap (λ k. drop k all) (next n)

-- one item more stands in the room
pub one_more : {A B : Type 0} → (f : A → B) (all : List A) (n : ℕ) (x : A) (rest : List A) (room : List B) → drop n all ≡ x ∷ rest
    → filled_at n (f x) (filled (map f (take n all)) room) ≡ filled (map f (take (n + 1) all)) room
one_more f all n x rest room e =
    let size : length (map f (take n all)) ≡ n = length-map (take n all) f ∙ length_taken all n x rest e in
    ap (λ k. filled_at k (f x) (filled (map f (take n all)) room)) (sym size)
    ∙ filled_more (map f (take n all)) (f x) room
    ∙ ap (λ l. filled l room) (sym (map_more f (take n all) x) ∙ ap (map f) (sym (take_one all n x rest e)))
    ∙ ap (λ k. filled (map f (take k all)) room) (next n)

-- as many as the list has
pub all_taken : {A : Type 0} → (all : List A) (n : ℕ) → length all ≤ n → take n all ≡ all
all_taken [] zero h = refl
all_taken [] (suc n) h = refl
all_taken (x ∷ all) zero h = absurd (omega (arith, h))
all_taken (x ∷ all) (suc n) h = ap (λ l. x ∷ l) (all_taken all n (omega (arith, h)))

-- a second and the total there, each as so many bits hold it
pub read_at : (total : ℤ → ℤ) (second given told : ℤ) → SFits w64 given → SFits w32 told → given ≡ second
    → total (nanos_of (to_z w64 (of_z w64 given))) ≡ told → (to_z w64 (of_z w64 given) ≡ second) × (to_z w32 (of_z w32 told) ≡ total (nanos_of second))
read_at total second given told wide short is shown =
    let here = to_z-of_z_to w64 given second wide is in
    (here, to_z-of_z_to w32 told _ short (sym shown ∙ ap (λ s. total (nanos_of s)) here))
