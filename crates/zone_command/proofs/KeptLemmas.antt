-- What is kept once a zone was put in.
use Rattle.std.proofs.Common.{◌≡◌, ℕ, Bool, true, false, ◌||◌, List, Some, cond, refl, sym, ap, subst, ◌∙◌}
use Rattle.std.specs.{Prelude.{IfSome, OnErr, OnOk, Result, Ok, Err, is_some}, declared.alloc.AllocError.{AllocError}, Cmp.Lexicographic.{bytes_decides}, FinMap.{FinMap, contains_key, empty, get, get-empty, insert}, Str.{bytes_eq}}
use Rattle.basics.specs.{Keyed.{text_cmp}, KeyedLaws.{get-inserted}}
use Rattle.zone_command.specs.{Offsets.{offset_in}, Kept.{is_kept}}

-- nothing is kept of no names
pub none_known : {Z : Type 0} → (Is : List ℕ → Z → Type 0) (m : FinMap text_cmp Z) → m ≡ empty → (n : List ℕ) → IfSome (get m n) (Is n)
none_known Is m none n = subst (λ o. IfSome o (Is n)) (sym (ap (λ k. get k n) none ∙ get-empty text_cmp n)) tt

-- each zone is that of its name
pub still_known : {Z : Type 0} → (Is : List ℕ → Z → Type 0) (m : FinMap text_cmp Z) (name : List ℕ) (z : Z) → Is name z
    → ((n : List ℕ) → IfSome (get m n) (Is n)) → (n : List ℕ) → IfSome (get (insert m name z) n) (Is n)
still_known Is m name z is known n =
    subst (λ o. IfSome o (Is n)) (sym (get-inserted m name n z)) (elim (bytes_eq name n)
    as (λ b. bytes_eq name n ≡ b → IfSome (cond b (Some z) (get m n)) (Is n)) [
      | true ↦ λ same. subst (λ k. Is k z) ((bytes_decides name n).0 same) is
      | false ↦ λ apart. known n
    ] refl)

-- a zone is put in, or memory ran out
pub put_in : {Z : Type 0} → (Is : List ℕ → Z → Type 0) (m new : FinMap text_cmp Z) (name : List ℕ) (z : Z) (r : Result (Unit {0}) AllocError)
    → OnOk r (new ≡ insert m name z) → OnErr r (new ≡ m) → Is name z → ((n : List ℕ) → IfSome (get m n) (Is n)) → (n : List ℕ) → IfSome (get new n) (Is n)
put_in Is m new name z (Ok done) ok err is known n = subst (λ k. IfSome (get k n) (Is n)) (sym ok) (still_known Is m name z is known n)
put_in Is m new name z (Err e) ok err is known n = subst (λ k. IfSome (get k n) (Is n)) (sym err) (known n)

either_true : (a b : Bool) → b ≡ true → (a || b) ≡ true
either_true true b e = refl
either_true false b e = e

-- a name that was kept, or the one that was put in, is kept
pub still_kept : {Z : Type 0} → (m : FinMap text_cmp Z) (name : List ℕ) (z : Z) (n : List ℕ) → is_kept m n ≡ true → is_kept (insert m name z) n ≡ true
still_kept m name z n kept =
    ap (λ o. is_some (offset_in n) || is_some o) (get-inserted m name n z) ∙ more (is_some (offset_in n)) (bytes_eq name n) kept
  where
    more : (offset b : Bool) → (offset || is_some (get m n)) ≡ true → (offset || is_some (cond b (Some z) (get m n))) ≡ true
    more true b e = refl
    more false true e = refl
    more false false e = e

pub now_kept : {Z : Type 0} → (m : FinMap text_cmp Z) (name : List ℕ) (z : Z) → is_kept (insert m name z) name ≡ true
now_kept m name z =
    either_true (is_some (offset_in name)) (contains_key (insert m name z) name)
    (ap is_some (get-inserted m name name z ∙ ap (λ b. cond b (Some z) (get m name)) ((bytes_decides name name).1 refl)))
