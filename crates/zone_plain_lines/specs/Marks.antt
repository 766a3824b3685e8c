-- The mark in front of names that are made: no name of a source begins with it.
use Rattle.std.specs.Prelude.{ℕ, suc, zero, ◌==◌, List, [], ◌∷◌, flat_map, length, nat_lt, if◌then◌else◌}

-- what stands behind that byte in a name that begins with it; of any other name nothing
abbrev pub behind : ℕ → List ℕ → List (List ℕ)
behind byte [] = []
behind byte (first ∷ rest) = if first == byte then rest ∷ [] else []

-- the same of each of these names
abbrev pub tails : ℕ → List (List ℕ) → List (List ℕ)
tails byte names = flat_map (behind byte) names

-- `_` or `a`, the one with which fewer of these names begin; `_` where as many do
abbrev pub rarer : List (List ℕ) → ℕ
rarer names = if nat_lt (length (tails 97 names)) (length (tails 95 names)) then 97 else 95

-- letter by letter the rarer one of the names that begin with those so far, until none does, in at most so many letters
unfoldable pub ending_within : ℕ → List (List ℕ) → List ℕ
ending_within zero names = []
ending_within (suc count) [] = []
ending_within (suc count) (name ∷ names) = rarer (name ∷ names) ∷ ending_within count (tails (rarer (name ∷ names)) (name ∷ names))

-- the same to the end: each letter leaves at most half of the names
abbrev pub ending : List (List ℕ) → List ℕ
ending names = ending_within (length names) names

-- `_` and an ending of what stands behind the `_` of names
abbrev pub mark_behind : List (List ℕ) → List ℕ
mark_behind names = 95 ∷ ending names

-- the mark of names, with which none of them begins: `_`, and then, as long as a name begins with what stands so far, `_` or `a`,
-- whichever fewer of these names go on with
abbrev pub mark : List (List ℕ) → List ℕ
mark names = mark_behind (tails 95 names)
