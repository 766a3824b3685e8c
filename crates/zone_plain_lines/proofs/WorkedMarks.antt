-- Worked rows: the marks of names.
use Rattle.std.{proofs.Common.{◌≡◌, ℕ, zero, suc, List, [], ◌∷◌, ◌++◌, map, refl}, specs.Prelude.{codes, replicate}}
use Rattle.zone_plain_lines.specs.Marks.{ending_within, mark}

-- of no names; of names that don't begin with `_`; and of one that does
of_one : map mark ([] ∷ (codes "b2" ∷ codes "a_" ∷ codes "" ∷ []) ∷ (codes "_" ∷ []) ∷ (codes "_x" ∷ []) ∷ (codes "__x" ∷ []) ∷ (codes "_a" ∷ [])
    ∷ (codes "_ax" ∷ []) ∷ (codes "_-b-dc" ∷ []) ∷ [])
    ≡ codes "_" ∷ codes "_" ∷ codes "__" ∷ codes "__" ∷ codes "_a" ∷ codes "__" ∷ codes "__" ∷ codes "__" ∷ []
unfolding ending_within
of_one = refl

-- the letter of fewer names, `_` where as many have each; a name counts as often as it stands
of_more : map mark (
    (codes "_a" ∷ codes "__" ∷ [])
    ∷ (codes "_a" ∷ codes "__" ∷ codes "__" ∷ [])
    ∷ (codes "_a" ∷ codes "_a_" ∷ codes "__" ∷ codes "__x" ∷ codes "___" ∷ [])
    ∷ (codes "_a" ∷ codes "_a_" ∷ codes "__" ∷ codes "___" ∷ codes "_b" ∷ [])
    ∷ [])
    ≡ codes "___" ∷ codes "_a_" ∷ codes "_aa" ∷ codes "__a" ∷ []
unfolding ending_within
of_more = refl

-- the mark of one name of a thousand `_`
of_a_run : mark (replicate 1000 95 ∷ []) ≡ codes "_a"
unfolding ending_within
of_a_run = refl

-- all words of so many letters `_` and `a`
words : ℕ → List (List ℕ)
words zero = [] ∷ []
words (suc n) = map (λ word. 95 ∷ word) (words n) ++ map (λ word. 97 ∷ word) (words n)

-- a hundred names, of which 64 begin with `_` and differ in the next six letters: no mark of that many names is longer
of_a_hundred : mark (map (λ word. 95 ∷ word) (words 6) ++ replicate 36 (codes "EU")) ≡ codes "________"
unfolding ending_within words
of_a_hundred = refl
