-- Names that were looked for, by their places.
use Rattle.std.specs.{Prelude.{◌≡◌, ℕ, ◌<◌, List, length, Option, Some, option_map, slice_get}, Borrow.{Bor}}
use Rattle.zone_tzif_core.specs.Reading.{name_in}

-- each at the first places is the name at its place
abbrev pub AreNamesTo : ℕ → List ℕ → List (Option (Bor (List ℕ))) → Type 0
AreNamesTo count names table = (place : ℕ) (found : Option (Bor (List ℕ))) → place < count → slice_get table place ≡ Some found → option_map (λ text. text.now) found ≡ name_in names place

-- each is the name at its place
abbrev pub AreNames : List ℕ → List (Option (Bor (List ℕ))) → Type 0
AreNames names table = AreNamesTo (length table) names table
