-- Sources that ask for nothing.
use Rattle.std.specs.Prelude.{◌≡◌, List, [], ◌∷◌}
use Rattle.zone_table.specs.Values.{LineValue}
use Rattle.zone_plain.specs.Pairs.{asked, nothing}

-- no line has a `%z`
abbrev pub HasNoOffsets : List LineValue → Type 0
HasNoOffsets [] = Unit {0}
HasNoOffsets (v ∷ values) = (asked v ≡ nothing) × HasNoOffsets values
