-- What a step over an option gave, a case that can't be, and what holds of every item.
use Rattle.std.{specs.Prelude.{◌≡◌, true, false, List, [], ◌∷◌, Option, Some, None}, specs.List.{AllByRecursion}, specs.Option.{option_map, option_and_then}, proofs.Common.{refl}, proofs.lemmas.Option.{same_Some}}

pub map_some : {A B : Type 0} (f : A → B) (o : Option A) (y : B) → option_map f o ≡ Some y → (x : A) × (o ≡ Some x) × (f x ≡ y)
map_some f (Some x) y e = (x, refl, same_Some _ _ e)
map_some f None y e = absurd cc

pub bind_some : {A B : Type 0} (f : A → Option B) (o : Option A) (y : B) → option_and_then f o ≡ Some y
    → (x : A) × (o ≡ Some x) × (f x ≡ Some y)
bind_some f (Some x) y e = (x, refl, e)
bind_some f None y e = absurd cc

pub no_case : {A : Type 0} → false ≡ true → A
no_case h = absurd cc

pub every_weaker : {X : Type 0} (P Q : X → Type 0) → ((x : X) → P x → Q x) → (xs : List X) → AllByRecursion P xs → AllByRecursion Q xs
every_weaker P Q weaker [] h = tt
every_weaker P Q weaker (x ∷ xs) h = (weaker x h.0, every_weaker P Q weaker xs h.1)
