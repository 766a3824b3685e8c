-- Items for a caller who has room for so many.
use Rattle.std.specs.Prelude.{ℕ, zero, suc, List, [], ◌∷◌}

-- the first of the items, as many as there is room for, and behind them what was in the room
unfoldable pub filled : {A : Type 0} → List A → List A → List A
filled [] room = room
filled (x ∷ xs) [] = []
filled (x ∷ xs) (_ ∷ room) = x ∷ filled xs room

-- the room with an item at a place, or as it is where there is no such place
unfoldable pub filled_at : {A : Type 0} → ℕ → A → List A → List A
filled_at place x [] = []
filled_at zero x (_ ∷ room) = x ∷ room
filled_at (suc place) x (r ∷ room) = r ∷ filled_at place x room

-- the room with items from a place on, as far as they fit
unfoldable pub filled_from : {A : Type 0} → ℕ → List A → List A → List A
filled_from zero xs room = filled xs room
filled_from (suc place) xs [] = []
filled_from (suc place) xs (r ∷ room) = r ∷ filled_from place xs room
