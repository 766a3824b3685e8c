-- The test of trees decides whether they are one tree.
use Rattle.std.{specs.Prelude.{◌≡◌, ℕ, zero, suc, true, refl}, specs.Bool.{Decides}, specs.Cmp.{IsEquivalence, decided, unsigned_Decides, first_so, second_so}, proofs.Common.{ap, sym, ◌∙◌}, proofs.lemmas.Slice.Eq.{bytes_eq-Decides}}
use Rattle.civil_items.specs.declared.format_item.Component.{Component, TheVariants.{Year, Month, Day, Hour, Minute, Second, Subsecond, OffsetHour, OffsetMinute, OffsetSecond}}
use Rattle.civil_items.specs.Trees.{Tree, Trees, literal, text, component, compound, optional, first, no_trees, tree, component_place, same, all_same}

component_at : ℕ → Component
component_at zero = Year
component_at (suc zero) = Month
component_at (suc (suc zero)) = Day
component_at (suc (suc (suc zero))) = Hour
component_at (suc (suc (suc (suc zero)))) = Minute
component_at (suc (suc (suc (suc (suc zero))))) = Second
component_at (suc (suc (suc (suc (suc (suc zero)))))) = Subsecond
component_at (suc (suc (suc (suc (suc (suc (suc zero))))))) = OffsetHour
component_at (suc (suc (suc (suc (suc (suc (suc (suc zero)))))))) = OffsetMinute
component_at _ = OffsetSecond

at_place : (c : Component) → component_at (component_place c) ≡ c
unfolding component_at
at_place Year = refl
at_place Month = refl
at_place Day = refl
at_place Hour = refl
at_place Minute = refl
at_place Second = refl
at_place Subsecond = refl
at_place OffsetHour = refl
at_place OffsetMinute = refl
at_place OffsetSecond = refl

one_component : (a b : Component) → component_place a ≡ component_place b → a ≡ b
one_component a b e = sym (at_place a) ∙ ap component_at e ∙ at_place b

mutual
  same_is : (a b : Tree) → same a b ≡ true → a ≡ b
  same_is (literal a) (literal b) e = ap literal ((bytes_eq-Decides a b).0 e)
  same_is (text a) (text b) e = ap text ((bytes_eq-Decides a b).0 e)
  same_is (component a) (component b) e = ap component (one_component a b ((unsigned_Decides _ _).0 e))
  same_is (compound a) (compound b) e = ap compound (all_same_is a b e)
  same_is (optional a) (optional b) e = ap optional (same_is a b e)
  same_is (first a) (first b) e = ap first (all_same_is a b e)
  same_is _ _ e = cc

  all_same_is : (a b : Trees) → all_same a b ≡ true → a ≡ b
  all_same_is no_trees no_trees e = refl
  all_same_is (tree a more) (tree b rest) e =
      let h : a ≡ b = same_is a b (first_so (same a b) (all_same more rest) e) in
      let t : more ≡ rest = all_same_is more rest (second_so (same a b) (all_same more rest) e) in
      cc
  all_same_is _ _ e = cc

mutual
  is_same : (a : Tree) → same a a ≡ true
  is_same (literal a) = (bytes_eq-Decides a a).1 refl
  is_same (text a) = (bytes_eq-Decides a a).1 refl
  is_same (component a) = (unsigned_Decides _ _).1 refl
  is_same (compound a) = is_all_same a
  is_same (optional a) = is_same a
  is_same (first a) = is_all_same a

  is_all_same : (a : Trees) → all_same a a ≡ true
  is_all_same no_trees = refl
  is_all_same (tree a more) = rw (is_same a) (is_all_same more)

-- trees are the same exactly where they are one tree
pub same-Decides : (a b : Tree) → Decides (same a b) (a ≡ b)
same-Decides a b = (same_is a b, λ e. ap (same a) (sym e) ∙ is_same a)

pub all_same-Decides : (a b : Trees) → Decides (all_same a b) (a ≡ b)
all_same-Decides a b = (all_same_is a b, λ e. ap (all_same a) (sym e) ∙ is_all_same a)

-- so it is an equality
pub same_equiv : IsEquivalence same
same_equiv = decided same same-Decides
