-- The names of a source, and its release.
use Rattle.std.specs.Prelude.{◌≡◌, ℕ, List, Option, Some, None, length}
use Rattle.sefunjaro_c.specs.Statuses.{done, none_there}
use Rattle.sefunjaro.specs.Rooms.{filled}

-- a name, or a release, stands in the room, as far as it fits, and its length is told; there may be none
abbrev pub IsNameAt : Option (List ℕ) → ℕ → List ℕ → List ℕ → ℕ → Type 0
IsNameAt (Some name) status old new whole = (status ≡ done) × ((new ≡ filled name old) × (whole ≡ length name))
IsNameAt None status old new whole = (status ≡ none_there) × (new ≡ old)
