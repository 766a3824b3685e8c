-- Names and words.
use Rattle.std.{proofs.Common.{◌≡◌, ℕ, ◌+◌, ◌-◌, ◌<◌, ◌==◌, List, [], ◌∷◌, ◌++◌, length, map, take, drop, append_assoc, ◌||◌, false, refl, ap, sym, ◌∙◌}, proofs.lemmas.List.{at_drop_more, map-append, take-map, take_rest}, specs.Prelude.{codes}}
use Rattle.zone_texts.specs.{Same.{begins_so, has_word}, Unknown.{choices_text, question_text}}

-- a text that doesn't begin with a word has it behind its first byte
pub behind_byte : (text word : List ℕ) (n : ℕ) → n < length text → begins_so (take (length text - n) (drop n text)) word ≡ false
    → has_word (drop n text) word ≡ has_word (drop (n + 1) text) word
behind_byte text word n l e =
    at_drop_more (λ t. has_word t word) text n 0 l
    ∙ ap (λ b. b || has_word (drop (n + 1) text) word)
    (sym (at_drop_more (λ t. begins_so t word) text n 0 l) ∙ ap (λ t. begins_so t word) (sym (take_rest text n)) ∙ e)

-- the first of two lists in a row
pub first_of : {A B : Type 0} → (show : A → B) (n : ℕ) (near alike all : List A) (ps qs : List B) → map show near ≡ ps → map show alike ≡ qs
    → all ≡ near ++ alike → map show (take n all) ≡ take n (ps ++ qs)
first_of show n near alike all ps qs a b e = sym (take-map show n all) ∙ ap (take n) (ap (map show) e ∙ map-append show near alike ∙ (λ i. a i ++ b i))

-- a question where there are names
question_is : {A : Type 0} → (show : A → List ℕ) (near : List A) → (length near == 0) ≡ false
    → question_text (map show near) ≡ (codes "; did you mean " ++ choices_text (map show near)) ++ codes "?"
question_is show [] e = cc
question_is show (x ∷ xs) e = refl

pub asked : {A : Type 0} → (show : A → List ℕ) (near : List A) (old first second last : List ℕ) → (length near == 0) ≡ false
    → first ≡ old ++ codes "; did you mean " → second ≡ first ++ choices_text (map show near) → last ≡ second ++ codes "?"
    → last ≡ old ++ question_text (map show near)
asked show near old first second last some a b e =
    e ∙ ap (λ l. l ++ codes "?") (b ∙ ap (λ l. l ++ choices_text (map show near)) a ∙ append_assoc old (codes "; did you mean ") (choices_text (map show near)))
    ∙ append_assoc old (codes "; did you mean " ++ choices_text (map show near)) (codes "?") ∙ ap (λ l. old ++ l) (sym (question_is show near some))
