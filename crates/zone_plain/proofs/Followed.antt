-- Lines of zones in their places, each where one has to follow.
use Rattle.std.specs.Prelude.{List, [], ◌∷◌, Bool, false, not, is_some, ◌&&◌}
use Rattle.zone_table.specs.Values.{LineValue, space, zone, continuation}

-- a zone's line with an end is followed by one more of the zone, and no other line of a zone is, with blank lines at most between; the
-- first one by what is told
abbrev pub are_followed : Bool → List LineValue → Bool
are_followed is_open [] = not is_open
are_followed is_open (space ∷ values) = are_followed is_open values
are_followed is_open (zone name info ∷ values) = not is_open && are_followed (is_some info.time) values
are_followed is_open (continuation info ∷ values) = is_open && are_followed (is_some info.time) values
are_followed is_open (_ ∷ values) = not is_open && are_followed false values
