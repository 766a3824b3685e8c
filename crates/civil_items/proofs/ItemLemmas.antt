-- Lists of items, one place after another.
use Rattle.std.proofs.{Common.{◌≡◌, ◌≢◌, suc, List, [], ◌∷◌, length, false, refl, ap}, lemmas.Bool.{and_right}}
use Rattle.civil_items.specs.{declared.owned_format_item.OwnedFormatItem.{OwnedFormatItem}, ItemTrees.{plain_of, plain_trees}, Trees.{same, all_same}}

-- lists of different lengths are not the same
pub other_lengths : (xs ys : List OwnedFormatItem) → length xs ≢ length ys → all_same (plain_trees xs) (plain_trees ys) ≡ false
other_lengths [] [] h = absurd (h refl)
other_lengths [] (y ∷ ys) h = refl
other_lengths (x ∷ xs) [] h = refl
other_lengths (x ∷ xs) (y ∷ ys) h = and_right (same (plain_of x) (plain_of y)) _ (other_lengths xs ys (λ e. h (ap suc e)))
