-- What `strip_prefix` and `strip_suffix` give at an ASCII character is what the definitions say.
use Rattle.std.{proofs.Common.{◌≡◌, ℕ, List, [], ◌∷◌, ◌++◌, Option, Some, None, option_map, Bor, refl, sym, ap, ◌∙◌, eq-eqb, eqb-true}, proofs.lemmas.Bool.{false_from_ne_true, cond-false}, specs.Option.{MatchOption}}
use Rattle.basics.specs.Marks.{after_mark, before_mark}

pub stripped : (mark : ℕ) (text : List ℕ) (r : Option (Bor (List ℕ)))
    → MatchOption r ((rest : List ℕ) → text ≡ mark ∷ rest → ⊥) (λ x. text ≡ mark ∷ x.now) → option_map (λ x. x.now) r ≡ after_mark mark text
stripped mark text (Some x) h = rw (h, eq-eqb mark mark refl) refl
stripped mark [] None h = refl
stripped mark (b ∷ text) None h = sym (cond-false _ _ _ (false_from_ne_true _ (λ e. h text (ap (λ c. c ∷ text) (eqb-true _ _ e)))))

-- what stands before the mark that is the last byte
before_last : (mark : ℕ) (front : List ℕ) → before_mark mark (front ++ mark ∷ []) ≡ Some front
before_last mark [] = rw (eq-eqb mark mark refl) refl
before_last mark (c ∷ []) = rw (eq-eqb mark mark refl) refl
before_last mark (c ∷ d ∷ front) = ap (option_map (λ text. c ∷ text)) (before_last mark (d ∷ front))

-- a text that doesn't end with the mark
no_last : (mark : ℕ) (text : List ℕ) → ((front : List ℕ) → text ≡ front ++ mark ∷ [] → ⊥) → None ≡ before_mark mark text
no_last mark [] h = refl
no_last mark (c ∷ []) h = sym (cond-false _ _ _ (false_from_ne_true _ (λ e. h [] (ap (λ b. b ∷ []) (eqb-true _ _ e)))))
no_last mark (c ∷ d ∷ text) h =
    ap (option_map (λ front. c ∷ front)) (no_last mark (d ∷ text) (λ front e. h (c ∷ front) (ap (λ rest. c ∷ rest) e)))

pub suffixed : (mark : ℕ) (text : List ℕ) (r : Option (Bor (List ℕ)))
    → MatchOption r ((front : List ℕ) → text ≡ front ++ mark ∷ [] → ⊥) (λ x. text ≡ x.now ++ mark ∷ [])
    → option_map (λ x. x.now) r ≡ before_mark mark text
suffixed mark text (Some x) h = sym (ap (before_mark mark) h ∙ before_last mark x.now)
suffixed mark text None h = no_last mark text h
