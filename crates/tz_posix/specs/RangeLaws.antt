-- Where no part misses its range, neither does the first, nor any of the rest.
use Rattle.std.proofs.Common.{◌≡◌, refl, List, ◌∷◌, Option, Some, None}
use Rattle.tz_posix.specs.Ranges.{first_some}

pub none_first : {A : Type 0} (x : Option A) (rest : List (Option A)) → first_some (x ∷ rest) ≡ None → (x ≡ None) × (first_some rest ≡ None)
none_first None rest e = (refl, e)
none_first (Some x) rest e = absurd cc
