-- Texts by their bytes.
use Rattle.std.specs.{Prelude.{ℕ, Bool, List, nat_eq}, Cmp.{IsEquivalence, IsPartialEquivalence, partial_equiv_from_equiv}, Cmp.Lexicographic.{pointwise, nat_list_eq_equiv}}

-- the two texts have the same bytes
abbrev pub are_same_bytes : List ℕ → List ℕ → Bool
are_same_bytes = pointwise nat_eq

-- the laws that std asks of an equality
pub same_bytes_equivalence : IsEquivalence are_same_bytes
same_bytes_equivalence = nat_list_eq_equiv

pub same_bytes_partial_equivalence : IsPartialEquivalence are_same_bytes
same_bytes_partial_equivalence = partial_equiv_from_equiv same_bytes_equivalence
