-- Rooms that are filled.
use Rattle.std.proofs.{Common.{◌≡◌, ◌∙◌, ◌+◌, ◌-◌, ◌≤◌, ℕ, zero, suc, List, [], ◌∷◌, ◌++◌, length, take, drop, refl, ap, append-nil, length-drop, zero-add, arith, slice_set}, lemmas.List.{drop_all, take_all}}
use Rattle.sefunjaro.specs.Rooms.{filled, filled_at, filled_from}

-- what fits in front, and what is left of the room
pub filled_is : {A : Type 0} → (xs room : List A) → take (length room) xs ++ drop (length xs) room ≡ filled xs room
unfolding filled
filled_is [] [] = refl
filled_is [] (r ∷ room) = refl
filled_is (x ∷ xs) [] = refl
filled_is (x ∷ xs) (r ∷ room) = ap (λ l. x ∷ l) (filled_is xs room)

-- one item more goes to the next place
pub filled_more : {A : Type 0} → (xs : List A) (x : A) (room : List A) → filled_at (length xs) x (filled xs room) ≡ filled (xs ++ x ∷ []) room
unfolding filled filled_at
filled_more [] x [] = refl
filled_more [] x (r ∷ room) = refl
filled_more (y ∷ xs) x [] = refl
filled_more (y ∷ xs) x (r ∷ room) = ap (λ l. y ∷ l) (filled_more xs x room)

pub set_is : {A : Type 0} → (room : List A) (place : ℕ) (x : A) → slice_set room place x ≡ filled_at place x room
unfolding filled_at
set_is [] zero x = refl
set_is [] (suc place) x = refl
set_is (r ∷ room) zero x = refl
set_is (r ∷ room) (suc place) x = ap (λ l. r ∷ l) (set_is room place x)

pub past_is : {A : Type 0} → (room : List A) (place : ℕ) (x : A) → length room ≤ place → room ≡ filled_at place x room
unfolding filled_at
past_is [] place x h = refl
past_is (r ∷ room) zero x h = absurd (omega (arith, h))
past_is (r ∷ room) (suc place) x h = ap (λ l. r ∷ l) (past_is room place x (omega (arith, h)))

-- items behind those that stand in the room
pub filled_behind : {A : Type 0} → (xs ys room : List A) → filled_from (length xs) ys (filled xs room) ≡ filled (xs ++ ys) room
unfolding filled filled_from
filled_behind [] ys room = refl
filled_behind (x ∷ xs) ys [] = refl
filled_behind (x ∷ xs) ys (r ∷ room) = ap (λ l. x ∷ l) (filled_behind xs ys room)

next_place : (place n : ℕ) → suc place + n ≡ suc (place + n)
next_place place n = omega arith

-- one item more behind items from a place on
pub from_more : {A : Type 0} → (place : ℕ) (xs : List A) (x : A) (room : List A)
    → filled_at (place + length xs) x (filled_from place xs room) ≡ filled_from place (xs ++ x ∷ []) room
unfolding filled_at filled_from
from_more zero xs x room = ap (λ k. filled_at k x (filled xs room)) (zero-add (length xs)) ∙ filled_more xs x room
from_more (suc place) xs x [] = refl
from_more (suc place) xs x (r ∷ room) =
    ap (λ k. filled_at k x (r ∷ filled_from place xs room)) (next_place place (length xs)) ∙ ap (λ l. r ∷ l) (from_more place xs x room)

-- items behind items from a place on
pub from_behind : {A : Type 0} → (place : ℕ) (xs ys room : List A)
    → filled_from (place + length xs) ys (filled_from place xs room) ≡ filled_from place (xs ++ ys) room
unfolding filled_from
from_behind zero xs ys room = ap (λ k. filled_from k ys (filled xs room)) (zero-add (length xs)) ∙ filled_behind xs ys room
from_behind (suc place) xs ys [] = ap (λ k. filled_from k ys []) (next_place place (length xs))
from_behind (suc place) xs ys (r ∷ room) =
    ap (λ k. filled_from k ys (r ∷ filled_from place xs room)) (next_place place (length xs)) ∙ ap (λ l. r ∷ l) (from_behind place xs ys room)

from_is : {A : Type 0} → (place : ℕ) (xs room : List A) → take place room ++ filled xs (drop place room) ≡ filled_from place xs room
unfolding filled filled_from
from_is zero xs [] = refl
from_is zero xs (r ∷ room) = refl
from_is (suc place) [] [] = refl
from_is (suc place) (x ∷ xs) [] = refl
from_is (suc place) xs (r ∷ room) = ap (λ l. r ∷ l) (from_is place xs room)

-- as the machine parts it
pub from_parts : {A : Type 0} → (place : ℕ) (xs room new : List A) → new ≡ filled xs (take (length room - place) (drop place room))
    → take place room ++ (new ++ drop (length room - place) (drop place room)) ≡ filled_from place xs room
from_parts place xs room new e =
    let rest = drop place room in
    let short : length rest ≤ length room - place = omega (arith, length-drop place room) in
    ap (λ l. take place room ++ (l ++ drop (length room - place) rest)) (e ∙ ap (filled xs) (take_all (length room - place) rest short))
    ∙ ap (λ l. take place room ++ (filled xs rest ++ l)) (drop_all (length room - place) rest short)
    ∙ ap (λ l. take place room ++ l) (append-nil (filled xs rest)) ∙ from_is place xs room

-- behind the room there is no place
pub none_from : {A : Type 0} → (place : ℕ) (xs room : List A) → length room ≤ place → room ≡ filled_from place xs room
unfolding filled filled_from
none_from zero [] [] h = refl
none_from zero (x ∷ xs) [] h = refl
none_from zero xs (r ∷ room) h = absurd (omega (arith, h))
none_from (suc place) xs [] h = refl
none_from (suc place) xs (r ∷ room) h = ap (λ l. r ∷ l) (none_from place xs room (omega (arith, h)))
