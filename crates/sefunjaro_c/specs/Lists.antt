-- Lists of seconds that are asked at once.
use Rattle.std.specs.Prelude.{◌≡◌, ℕ, ℤ, suc, List, [], ◌∷◌, Option, Some, None, option_map, if◌then◌else◌}
use Rattle.civil_base.specs.{Instants.{nanos_of}, Ranges.{is_in_years}}
use Rattle.sefunjaro_c.specs.Statuses.{done, out_of_range}

-- the place, from 0, of the first second outside the years -9999 to 9999 in UTC, if there is one
unfoldable pub far_place : List ℤ → Option ℕ
far_place [] = None
far_place (second ∷ seconds) = if is_in_years (nanos_of second) then option_map suc (far_place seconds) else Some 0

-- where there is none they are answered for; else it is told, and what is kept is kept
abbrev pub OfPlace : Option ℕ → ℕ → ℕ → ℕ → Type 0 → Type 0 → Type 0
OfPlace None status old new kept P = (status ≡ done) × ((new ≡ old) × P)
OfPlace (Some place) status old new kept P = (status ≡ out_of_range) × ((new ≡ place) × kept)
