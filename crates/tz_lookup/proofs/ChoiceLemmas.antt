-- Which of three values two tests choose.
use Rattle.std.proofs.Common.{◌≡◌, Bool, true, false, cond, refl, sym, ap, ◌∙◌}

-- three values of which no two are one
abbrev pub AreApart : {A : Type 0} → A → A → A → Type 0
AreApart x y z = (x ≡ y → ⊥) × (x ≡ z → ⊥) × (y ≡ z → ⊥)

module _ {A : Type 0} {x y z : A} where
  pub chosen_first : AreApart x y z → (a b : Bool) → cond a x (cond b y z) ≡ x → a ≡ true
  chosen_first apart true b e = refl
  chosen_first apart false true e = absurd (apart.0 (sym e))
  chosen_first apart false false e = absurd (apart.1 (sym e))

  pub chosen_second : AreApart x y z → (a b : Bool) → cond a x (cond b y z) ≡ y → (a ≡ false) × (b ≡ true)
  chosen_second apart true b e = absurd (apart.0 e)
  chosen_second apart false true e = (refl, refl)
  chosen_second apart false false e = absurd (apart.2 (sym e))

  pub chosen_third : AreApart x y z → (a b : Bool) → cond a x (cond b y z) ≡ z → (a ≡ false) × (b ≡ false)
  chosen_third apart true b e = absurd (apart.1 e)
  chosen_third apart false true e = absurd (apart.2 e)
  chosen_third apart false false e = (refl, refl)

module _ {A : Type 0} (x y z : A) where
  pub choose_first : (a b : Bool) → a ≡ true → cond a x (cond b y z) ≡ x
  choose_first a b e = ap (λ t. cond t x (cond b y z)) e

  pub choose_second : (a b : Bool) → a ≡ false → b ≡ true → cond a x (cond b y z) ≡ y
  choose_second a b e f = ap (λ t. cond t x (cond b y z)) e ∙ ap (λ t. cond t y z) f

  pub choose_third : (a b : Bool) → a ≡ false → b ≡ false → cond a x (cond b y z) ≡ z
  choose_third a b e f = ap (λ t. cond t x (cond b y z)) e ∙ ap (λ t. cond t y z) f
