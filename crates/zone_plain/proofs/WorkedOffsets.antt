-- Worked rows: the texts of totals, and names of rulesets that are made.
use Rattle.std.{proofs.Common.{◌≡◌, pos, neg_ℤ, [], ◌∷◌, map, true, false, refl}, specs.Prelude.{codes, Some, None}, specs.Fmt.{digits}}
use Rattle.zone_plain.specs.{OffsetTexts.{offset_text, has_text}, MadeNames.{made_name}, Formats.{around, around_mark}}

texts : map offset_text (pos 0 ∷ neg_ℤ (pos 10800) ∷ pos 19800 ∷ pos 4815 ∷ pos 3615 ∷ neg_ℤ (pos 1) ∷ [])
    ≡ codes "+00" ∷ codes "-03" ∷ codes "+0530" ∷ codes "+012015" ∷ codes "+010015" ∷ codes "-000001" ∷ []
unfolding offset_text
texts = refl

-- the largest, and one past it
largest : map has_text (neg_ℤ (pos 359999) ∷ pos 360000 ∷ []) ≡ true ∷ false ∷ []
largest = refl

names : made_name (codes "_") 0 ∷ made_name (codes "_") 9 ∷ made_name (codes "_a_") 10 ∷ [] ≡ codes "_a" ∷ codes "_j" ∷ codes "_a_ba" ∷ []
unfolding made_name digits
names = refl

in_format : around_mark (codes "A%zB") ≡ Some (around (codes "A") (codes "B"))
unfolding around_mark
in_format = refl

letters_alone : around_mark (codes "A%sT") ≡ None
unfolding around_mark
letters_alone = refl
