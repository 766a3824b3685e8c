-- What is written of the values of a source's lines.
use Rattle.std.specs.Prelude.{ℕ, List, [], ◌∷◌, ◌++◌, Bool, true, false, flat_map, if◌then◌else◌}
use Rattle.zone_table.specs.Values.{LineValue, zone, continuation, rule, link}
use Rattle.zone_plain_lines.specs.PlainTexts.{plain_text}

-- the parts of what is written
pub data Part : Type 0 where
  Rules : Part
  -- with their continuations
  Zones : Part
  Links : Part

-- a value of that part
abbrev pub is_in : Part → LineValue → Bool
is_in Rules (rule r) = true
is_in Zones (zone name info) = true
is_in Zones (continuation info) = true
is_in Links (link existing new) = true
is_in _ _ = false

-- its plain text and a line feed
abbrev pub line_text : LineValue → List ℕ
line_text v = plain_text v ++ 10 ∷ []

-- the same, or nothing
abbrev pub part_text : Part → LineValue → List ℕ
part_text part v = if is_in part v then line_text v else []

-- the rules, then the zones, then the links, each in the order of the source
unfoldable pub written : List LineValue → List ℕ
written values = (flat_map (part_text Rules) values ++ flat_map (part_text Zones) values) ++ flat_map (part_text Links) values
