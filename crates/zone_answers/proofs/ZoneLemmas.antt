-- Zones that were asked for so far, one more.
use Rattle.std.proofs.{Common.{◌≡◌, ℕ, zero, suc, List, [], ◌∷◌, ◌++◌, length, Bool, true, false, cond, Option, Some, None, Ok, IfSome, refl, subst, ap, arith, ◌<◌}, lemmas.Slice.Eq.{bytes_eq-Decides}}
use Rattle.std.specs.{Prelude.{IsSomeAnd, bytes_eq, slice_get}, FinMap.{FinMap, get, insert}}
use Rattle.basics.specs.{Keyed.{text_cmp}, KeyedLaws.{get-inserted}}
use Rattle.zone_run.specs.Readings.{found_under}
use Rattle.zone_table.specs.{Resolved.{resolved_in}, declared.table.Table.{Table}}
use Rattle.zone_answers.specs.{Found.{Reading, found_in_table}, Opened.{IsOpened, IsPlaced}, declared.opened.Last.{Last}, declared.opened.OpenedZone.{Ghosts}}

-- names that lead to the same lines find the same
pub same_found : (read : Reading) (table : Table) (stem name : List ℕ) → resolved_in table stem ≡ resolved_in table name
    → found_in_table read table stem ≡ found_in_table read table name
unfolding found_in_table
same_found read table stem name same = ap (found_under read (get table.rulesets)) same

-- so the zone of one stands where that of the other does
pub placed_same : {Z : Type 0} (kind : Ghosts Z) (table : Table) (opened : List Z) (stem name : List ℕ) (place : ℕ)
    → resolved_in table stem ≡ resolved_in table name → IsPlaced kind table opened stem place → IsPlaced kind table opened name place
placed_same kind table opened stem name place same is =
    subst (λ found. IsSomeAnd (slice_get opened place) (λ zone. found ≡ Ok (kind.total_at zone))) (same_found kind.read table stem name same) is

-- an item stays where it stands when another joins the list
pub stays : {X : Type 0} (P : X → Type 0) (xs ys : List X) (place : ℕ) → IsSomeAnd (slice_get xs place) P
    → IsSomeAnd (slice_get (xs ++ ys) place) P
stays P [] ys place is = absurd is
stays P (x ∷ xs) ys zero is = is
stays P (x ∷ xs) ys (suc place) is = stays P xs ys place is

-- and that one stands at the end
pub stands_last : {X : Type 0} (P : X → Type 0) (xs : List X) (x : X) → P x → IsSomeAnd (slice_get (xs ++ x ∷ []) (length xs)) P
stands_last P [] x is = is
stands_last P (y ∷ xs) x is = stands_last P xs x is

-- what stands at a place is within the list
pub placed_within : {X : Type 0} (P : X → Type 0) (xs : List X) (place : ℕ) → IsSomeAnd (slice_get xs place) P → place < length xs
placed_within P [] place is = absurd is
placed_within P (x ∷ xs) zero is = omega arith
placed_within P (x ∷ xs) (suc place) is = let within = placed_within P xs place is in omega (arith, within)

-- and is what is found there
pub placed_there : {X : Type 0} (P : X → Type 0) (xs : List X) (place : ℕ) (x : X) → slice_get xs place ≡ Some x → IsSomeAnd (slice_get xs place) P → P x
placed_there P xs place x found is = subst (λ o. IsSomeAnd o P) found is

-- so do zones, at the places of their names
pub each_stays : {Z : Type 0} (kind : Ghosts Z) (table : Table) (opened more : List Z) (places : FinMap text_cmp ℕ)
    → ((n : List ℕ) → IfSome (get places n) (IsPlaced kind table opened n))
    → (n : List ℕ) → IfSome (get places n) (IsPlaced kind table (opened ++ more) n)
each_stays kind table opened more places each n = by_place (get places n) (each n)
  where
    by_place : (o : Option ℕ) → IfSome o (IsPlaced kind table opened n) → IfSome o (IsPlaced kind table (opened ++ more) n)
    by_place None is = is
    by_place (Some place) is = stays (IsOpened kind table n) opened more place is

-- so does the zone that was asked for last
pub last_stays : {Z : Type 0} (kind : Ghosts Z) (table : Table) (opened more : List Z) (o : Option Last)
    → IfSome o (λ last. IsPlaced kind table opened last.name.now last.place)
    → IfSome o (λ last. IsPlaced kind table (opened ++ more) last.name.now last.place)
last_stays kind table opened more None is = is
last_stays kind table opened more (Some last) is = stays (IsOpened kind table last.name.now) opened more last.place is

-- a name whose zone stands at a place joins the names
pub each_kept : {Z : Type 0} (kind : Ghosts Z) (table : Table) (opened : List Z) (places : FinMap text_cmp ℕ) (name : List ℕ) (place : ℕ)
    → ((n : List ℕ) → IfSome (get places n) (IsPlaced kind table opened n)) → IsPlaced kind table opened name place
    → (n : List ℕ) → IfSome (get (insert places name place) n) (IsPlaced kind table opened n)
each_kept kind table opened places name place each is n = rw (get-inserted places name n place) (by_name (bytes_eq name n) refl)
  where
    by_name : (b : Bool) → bytes_eq name n ≡ b → IfSome (cond b (Some place) (get places n)) (IsPlaced kind table opened n)
    by_name true e = subst (λ n. IsPlaced kind table opened n place) ((bytes_eq-Decides name n).0 e) is
    by_name false e = each n
