-- The values of the source lines, and the zones and the rules that names find in them.
use Rattle.std.specs.{Prelude.{ℕ, List, map, reverse, Option, if◌then◌else◌}, Result.{result_unwrap_or}, Str.{is_utf8}}
use Rattle.basics.specs.Listed.{listed}
use Rattle.zone_line.specs.LineValues.{value}
use Rattle.zone_table.specs.{Values.{LineValue, space}, Joined.{rules_of}, Resolved.{resolved}, declared.rule.RuleInfo.{RuleInfo}, declared.zone.ZoneInfo.{ZoneInfo}}
use Rattle.zone_source.specs.Lines.{lines_of}

-- what a source line says; one that is no text or has a fault says nothing
unfoldable pub source_value : List ℕ → LineValue
source_value line = if is_utf8 line then result_unwrap_or (value line) space else space

-- the values of the source lines, in order
unfoldable pub values_of : List ℕ → List LineValue
values_of source = map source_value (lines_of source)

-- the lines of the zone that a name finds: that of this name, or the one that the link of this name leads to
unfoldable pub zone_in : List ℕ → List ℕ → Option (List ZoneInfo)
zone_in source name = resolved (reverse (values_of source)) name

-- the rules of the ruleset of that name, in order
unfoldable pub rules_in : List ℕ → List ℕ → Option (List RuleInfo)
rules_in source name = listed (rules_of (reverse (values_of source)) name)
