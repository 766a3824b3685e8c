-- What holds of each item of a list, and of one more.
use Rattle.std.proofs.{Common.{◌≡◌, ℕ, zero, suc, List, [], ◌∷◌, ◌++◌, length, Option, Some, None, slice_get, sym, ap, ◌∙◌, subst}, lemmas.Option.{none-some}}

same : {X : Type 0} (x y : X) → Some x ≡ Some y → x ≡ y
same x y e = ap (unwrap_or x) e
  where
    unwrap_or : {X : Type 0} → X → Option X → X
    unwrap_or d (Some z) = z
    unwrap_or d None = d

one_more : {X : Type 0} (p : ℕ → X → Type 0) (xs : List X) (x : X) → ((k : ℕ) (y : X) → slice_get xs k ≡ Some y → p k y) → p (length xs) x → (k : ℕ) (y : X) → slice_get (xs ++ x ∷ []) k ≡ Some y → p k y
one_more p [] x had new zero y e = subst (p 0) (same x y e) new
one_more p [] x had new (suc k) y e = absurd (none-some y e)
one_more p (z ∷ xs) x had new zero y e = had 0 y e
one_more p (z ∷ xs) x had new (suc k) y e = one_more (λ k. p (suc k)) xs x (λ k y e. had (suc k) y e) new k y e

-- what holds of each item, and of one more, holds of each of all
pub grown_by : {X : Type 0} (P : X → Type 0) (xs grown : List X) (x : X) → grown ≡ xs ++ x ∷ [] → ((k : ℕ) (y : X) → slice_get xs k ≡ Some y → P y) → P x
    → (k : ℕ) (y : X) → slice_get grown k ≡ Some y → P y
grown_by P xs grown x items had new k y e = one_more (λ _ z. P z) xs x had new k y (ap (λ l. slice_get l k) (sym items) ∙ e)
