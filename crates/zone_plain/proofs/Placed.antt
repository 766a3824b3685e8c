-- Lines of zones in their places.
use Rattle.std.specs.Prelude.{List, [], ◌∷◌, Bool, true, false, ◌&&◌}
use Rattle.zone_table.specs.Values.{LineValue, space, zone, continuation}

-- each continuation follows a line of a zone, with blank lines at most between; the first one by what is told
abbrev pub are_placed : Bool → List LineValue → Bool
are_placed follows [] = true
are_placed follows (space ∷ values) = are_placed follows values
are_placed follows (zone name info ∷ values) = are_placed true values
are_placed follows (continuation info ∷ values) = follows && are_placed true values
are_placed follows (_ ∷ values) = are_placed false values
