-- Lines as one buffer: each ends at a line feed, and a list says where the next would begin.
use Rattle.std.specs.{Prelude.{◌≡◌, ℕ, zero, suc, ◌-◌, ◌<◌, ◌≤◌, List, [], ◌∷◌, ◌++◌, length, slice_range, slice_index}, List.{flat_map}}

-- the lines that end before these places, the first beginning at a place
abbrev pub lines_between : ℕ → List ℕ → List ℕ → List (List ℕ)
lines_between from [] bytes = []
lines_between from (end ∷ ends) bytes = slice_range bytes from (end - 1) ∷ lines_between end ends bytes

-- where the line at a place begins
abbrev pub start_of : ℕ → List ℕ → ℕ → ℕ
start_of from ends zero = from
start_of from [] (suc i) = from
start_of from (end ∷ ends) (suc i) = start_of end ends i

-- each of these places follows a line feed, they rise, and the last is the end
abbrev pub AreEnds : ℕ → List ℕ → List ℕ → Type 0
AreEnds from [] bytes = from ≡ length bytes
AreEnds from (end ∷ ends) bytes = (from < end) × (end ≤ length bytes) × (slice_index bytes (end - 1) ≡ 10) × AreEnds end ends bytes

-- each line followed by a line feed
abbrev pub ended : List (List ℕ) → List ℕ
ended lines = flat_map (λ line. line ++ 10 ∷ []) lines
