-- How the changes of a set are listed one by one, and how one is searched for by its second.
use Rattle.std.specs.{Prelude.{◌≡◌, ℕ, ℤ, ◌+◌, ◌<◌, ◌≤◌, ◌≤ℤ◌, ◌<ℤ◌, List, ◌∷◌, length, drop, Option, Some, None}, List.{slice_get}}
use Rattle.tz_lookup.specs.Spans.{Shift, shift_at}
use Rattle.sefunjaro.specs.{Changes.{settled_changes}, Rooms.{filled_at}, declared.changes.Change.{Change}}

-- the change at a place is found, and is settled_changes; or it isn't, and what is settled_changes is settled_changes behind it
abbrev pub IsChangeAt : List Change → ℕ → Option Change → Type 0
IsChangeAt changes place (Some change) =
    (slice_get changes place ≡ Some change) × (settled_changes (drop place changes) ≡ change ∷ settled_changes (drop (place + 1) changes))
IsChangeAt changes place None = settled_changes (drop place changes) ≡ settled_changes (drop (place + 1) changes)

abbrev pub how_many : Option Change → ℕ
how_many (Some change) = 1
how_many None = 0

abbrev pub with_change : Option Change → ℕ → List Change → List Change
with_change (Some change) place room = filled_at place change room
with_change None place room = room

-- the change at a place, if there is one, was put at the next place of the room, and counted
pub record HasPut (changes : List Change) (place count counted : ℕ) (old new : List Change) : Type 0 where
  pub found : Option Change
  pub is_at : IsChangeAt changes place found
  pub raised : counted ≡ count + how_many found
  pub stands : new ≡ with_change found count old

-- the first k shifts lie before a second, and the others don't
pub record AreParted (shifts : List Shift) (k : ℕ) (second : ℤ) : Type 0 where
  pub within : k ≤ length shifts
  pub before : (j : ℕ) → j < k → (shift_at shifts j).0 <ℤ second
  pub after : (j : ℕ) → k ≤ j → j < length shifts → second ≤ℤ (shift_at shifts j).0
