-- What a source means, with its own names and with those of the plain form.
use Rattle.std.specs.Prelude.{◌≡◌, ℕ, List, map, All, true, Ok}
use Rattle.zone_line.specs.Fields.{is_ruleset_name}
use Rattle.zone_table.specs.Values.{LineValue}
use Rattle.zone_plain_lines.specs.{Said.{is_said}, Renamed.{ruleset_of, mark_of, renamed}}
use Rattle.zone_plain.specs.LineValues.{meant_in}

-- the plain form can say it
abbrev pub IsSaid : LineValue → Type 0
IsSaid v = is_said v ≡ true

-- the lines of a source with their rulesets by their names in the plain form
abbrev pub named_lines : List LineValue → List LineValue
named_lines meant = map (renamed (mark_of meant)) meant

-- the values are what a source means, with its rulesets by their names in the plain form, and each can be said
pub record IsNamed (source : List ℕ) (values : List LineValue) : Type 0 where
  pub meant : List LineValue
  pub means : meant_in source ≡ Ok meant
  pub by_name : values ≡ named_lines meant
  pub said : All IsSaid values

-- the name of its ruleset can be said, and so can it
pub record IsSaidAsMeant (v : LineValue) : Type 0 where
  pub name : is_ruleset_name (ruleset_of v) ≡ true
  pub said : is_said v ≡ true
