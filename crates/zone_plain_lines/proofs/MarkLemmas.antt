-- The letters of a mark so far, and the names that are left.
use Rattle.std.{proofs.Common.{◌≡◌, ℕ, ◌<◌, List, [], ◌∷◌, ◌++◌, length, map, true, false, refl, sym, ap, ◌∙◌, append_assoc, append-nil, arith}, proofs.lemmas.Bool.{both_ways}, proofs.lemmas.Bool.Decides.{nat_tests}, specs.Prelude.{◌==◌}}
use Rattle.zone_table.specs.Values.{LineValue}
use Rattle.zone_plain_lines.specs.{Marks.{tails, rarer, ending_within, ending, mark_behind}, MarkLaws.{half, next_letter}, Renamed.{ruleset_of, mark_of}}

-- a letter leaves fewer names
pub smaller : (names fewer : List (List ℕ)) (letter : ℕ) → (length names == 0) ≡ false → letter ≡ rarer names → fewer ≡ tails letter names
    → length fewer < length names
smaller [] fewer letter some is left = absurd (both_ways true some refl)
smaller (name ∷ names) fewer letter some is left =
    let few = half (name ∷ names) in
    let count = ap length (left ∙ ap (λ l. tails l (name ∷ names)) is) in
    omega (arith, few, count)

-- one letter more
pub one_letter : (names fewer : List (List ℕ)) (letter : ℕ) (so_far now all : List ℕ) → (length names == 0) ≡ false → letter ≡ rarer names
    → fewer ≡ tails letter names → now ≡ so_far ++ letter ∷ [] → so_far ++ ending names ≡ all → now ++ ending fewer ≡ all
one_letter [] fewer letter so_far now all some is left now_is goes_on = absurd (both_ways true some refl)
one_letter (name ∷ names) fewer letter so_far now all some is left now_is goes_on =
    let count = left ∙ ap (λ l. tails l (name ∷ names)) is in
    (λ i. (now_is ∙ ap (λ l. so_far ++ l ∷ []) is) i ++ ending (count i))
    ∙ append_assoc so_far (rarer (name ∷ names) ∷ []) (ending (tails (rarer (name ∷ names)) (name ∷ names)))
    ∙ ap (λ letters. so_far ++ letters) (sym (next_letter name names)) ∙ goes_on

-- no names are left
pub all_letters : (names : List (List ℕ)) (so_far all : List ℕ) → (length names == 0) ≡ true → so_far ++ ending names ≡ all → so_far ≡ all
unfolding ending_within
all_letters [] so_far all none goes_on = sym (append-nil so_far) ∙ goes_on
all_letters (name ∷ names) so_far all none goes_on = absurd (grind (arith, nat_tests))

-- the mark by what stands behind the `_` of a source's names
pub mark_is : (values : List LineValue) (behind : List (List ℕ)) (mark : List ℕ) → behind ≡ tails 95 (map ruleset_of values) → mark ≡ mark_behind behind
    → mark ≡ mark_of values
unfolding mark_of
mark_is values behind mark names is = is ∙ ap mark_behind names
