-- How buffers of text compare: as the lists of their bytes do.
use Rattle.std.specs.{Prelude.{ℕ, Bool, List, Option, Some, nat_eq}, Cmp.Lexicographic.{pointwise, slice_cmp}, Ordering.{nat_cmp}, declared.cmp.Ordering.{Ordering}}

-- the two texts have the same bytes
abbrev pub are_same_bytes : List ℕ → List ℕ → Bool
are_same_bytes = pointwise nat_eq

-- the first two bytes that differ decide, and else the lengths do
abbrev pub cmp_by_bytes : List ℕ → List ℕ → Ordering
cmp_by_bytes = slice_cmp nat_cmp

abbrev pub partial_cmp_by_bytes : List ℕ → List ℕ → Option Ordering
partial_cmp_by_bytes text other = Some (cmp_by_bytes text other)
