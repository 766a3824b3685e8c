-- A list that a map has at a name only where it is not empty.
use Rattle.std.specs.Prelude.{List, [], ◌∷◌, Option, Some, None}

abbrev pub listed : {X : Type 0} → List X → Option (List X)
listed [] = None
listed (x ∷ xs) = Some (x ∷ xs)
