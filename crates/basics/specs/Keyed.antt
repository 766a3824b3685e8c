-- Entries with texts as keys, as a finite map from the bytes of the texts.
use Rattle.std.specs.{Prelude.{ℕ, Bool, List, IsTrue, IfSome, map, string_bytes}, declared.cmp.Ordering.{Ordering}, declared.string.String.{String}, Cmp.Lexicographic.{slice_cmp}, Ordering.{nat_cmp}, FinMap.{FinMap, from_entries, get}}

-- the order of texts by their bytes: the first two that differ decide, and else the lengths do
abbrev pub text_cmp : List ℕ → List ℕ → Ordering
text_cmp = slice_cmp nat_cmp

-- each key as its bytes
abbrev pub by_bytes : {Y X : Type 0} → List (String Y × X) → List (List ℕ × X)
by_bytes entries = map (λ entry. (string_bytes entry.0, entry.1)) entries

-- the map from the bytes of each key to its value
abbrev pub keyed : {Y X : Type 0} → List (String Y × X) → FinMap text_cmp X
keyed entries = from_entries (by_bytes entries)

-- the test passes at the value of each key
abbrev pub EachPasses : {X : Type 0} → (X → Bool) → FinMap text_cmp X → Type 0
EachPasses test texts = (name : List ℕ) → IfSome (get texts name) (λ value. IsTrue (test value))
