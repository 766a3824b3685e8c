-- Texts without regard to case.
use Rattle.std.{proofs.Common.{◌≡◌, ℕ, List, [], ◌∷◌, Bool, ◌&&◌, true, false, refl, sym, ◌∙◌}, proofs.lemmas.Bool.{and_parts, and_from, eqb-true, eq-eqb}, specs.Char.{eq_ignore_ascii_case, to_ascii_lowercase}}
use Rattle.zone_texts.specs.Same.{same}

pub byte_from : (x y : ℕ) → to_ascii_lowercase x ≡ to_ascii_lowercase y → eq_ignore_ascii_case x y ≡ true
byte_from x y e = eq-eqb _ _ e

pub byte_is : (x y : ℕ) → eq_ignore_ascii_case x y ≡ true → to_ascii_lowercase x ≡ to_ascii_lowercase y
byte_is x y e = eqb-true _ _ e

both : (p q : Bool) → (p ≡ true → q ≡ true) → (q ≡ true → p ≡ true) → p ≡ q
both true q f g = sym (f refl)
both false true f g = g refl
both false false f g = refl

pub byte_either : (x y : ℕ) → eq_ignore_ascii_case x y ≡ eq_ignore_ascii_case y x
byte_either x y = both _ _ (λ e. byte_from y x (sym (byte_is x y e))) (λ e. byte_from x y (sym (byte_is y x e)))

pub same_either : (a b : List ℕ) → same a b ≡ same b a
same_either [] [] = refl
same_either [] (y ∷ ys) = refl
same_either (x ∷ xs) [] = refl
same_either (x ∷ xs) (y ∷ ys) = λ i. byte_either x y i && same_either xs ys i

pub same_itself : (a : List ℕ) → same a a ≡ true
same_itself [] = refl
same_itself (x ∷ xs) = and_from (eq_ignore_ascii_case x x) (same xs xs) (byte_from x x refl) (same_itself xs)

pub same_through : (a b c : List ℕ) → same a b ≡ true → same b c ≡ true → same a c ≡ true
same_through [] [] c e f = f
same_through [] (y ∷ ys) c e f = cc
same_through (x ∷ xs) [] c e f = cc
same_through (x ∷ xs) (y ∷ ys) [] e f = cc
same_through (x ∷ xs) (y ∷ ys) (z ∷ zs) e f =
    let p = and_parts (eq_ignore_ascii_case x y) (same xs ys) e in
    let q = and_parts (eq_ignore_ascii_case y z) (same ys zs) f in
    and_from (eq_ignore_ascii_case x z) (same xs zs) (byte_from x z (byte_is x y p.0 ∙ byte_is y z q.0)) (same_through xs ys zs p.1 q.1)
