-- When format items are equal.
use Rattle.std.{specs.Prelude.{◌≡◌, Bool, true}, proofs.Common.{◌∙◌}, specs.Bool.{Decides}, specs.Cmp.{IsEquivalence, on_equiv}, specs.Ordering.{on}}
use Rattle.civil_items.specs.{declared.owned_format_item.OwnedFormatItem.{OwnedFormatItem}, ItemTrees.{plain_of}, Trees.{same}, TreeLaws.{same-Decides, same_equiv}}

-- the equality of items
abbrev pub are_equal : OwnedFormatItem → OwnedFormatItem → Bool
are_equal = on plain_of same

-- exactly where their plain trees are one
pub equal_plain : (one other : OwnedFormatItem) → Decides (are_equal one other) (plain_of one ≡ plain_of other)
equal_plain one other = same-Decides (plain_of one) (plain_of other)

-- so it is reflexive, symmetric and transitive
pub equal_equiv : IsEquivalence are_equal
equal_equiv = on_equiv plain_of same_equiv

pub equal_itself : (item : OwnedFormatItem) → are_equal item item ≡ true
equal_itself item = equal_equiv.refl item

pub equal_turned : (one other : OwnedFormatItem) → are_equal one other ≡ are_equal other one
equal_turned one other = equal_equiv.symm one other

pub equal_through : (one two three : OwnedFormatItem) → are_equal one two ≡ true → are_equal two three ≡ true
    → are_equal one three ≡ true
equal_through one two three e f = equal_equiv.congr one two three e ∙ f
