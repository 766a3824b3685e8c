-- The texts of the patterns, in the syntax of the crate `regex`.
use Rattle.std.specs.Prelude.{ℕ, List, codes}

-- a blank line, or a comment
abbrev pub empty_text : List ℕ
empty_text = codes "^\\s*(#.*)?$"

-- a Zone line
abbrev pub zone_text : List ℕ
zone_text = codes "^Zone\\s+(?P<name>[A-Za-z0-9/_+-]+)\\s+(?P<gmtoff>\\S+)\\s+(?P<rulessave>\\S+)\\s+(?P<format>\\S+)\\s*(?P<year>[0-9]+)?\\s*(?P<month>[A-Za-z]+)?\\s*(?P<day>[A-Za-z0-9><=]+)?\\s*(?P<time>[0-9:]+[suwz]?)?\\s*(#.*)?$"

-- a further line of a zone
abbrev pub continuation_text : List ℕ
continuation_text = codes "^\\s+(?P<gmtoff>\\S+)\\s+(?P<rulessave>\\S+)\\s+(?P<format>\\S+)\\s*(?P<year>[0-9]+)?\\s*(?P<month>[A-Za-z]+)?\\s*(?P<day>[A-Za-z0-9><=]+)?\\s*(?P<time>[0-9:]+[suwz]?)?\\s*(#.*)?$"

-- a Rule line
abbrev pub rule_text : List ℕ
rule_text = codes "^Rule\\s+(?P<name>\\S+)\\s+(?P<from>\\S+)\\s+(?P<to>\\S+)\\s+(?P<type>\\S+)\\s+(?P<in>\\S+)\\s+(?P<on>\\S+)\\s+(?P<at>\\S+)\\s+(?P<save>\\S+)\\s+(?P<letters>\\S+)\\s*(#.*)?$"

-- a Link line
abbrev pub link_text : List ℕ
link_text = codes "^Link\\s+(?P<target>\\S+)\\s+(?P<name>\\S+)\\s*(#.*)?$"

-- a weekday on one side of a day of the month
abbrev pub day_text : List ℕ
day_text = codes "^(?P<weekday>\\w+)(?P<sign>[<>]=)(?P<day>\\d+)$"

-- a time of hours and minutes
abbrev pub hm_text : List ℕ
hm_text = codes "^(?P<sign>-?)(?P<hour>\\d{1,2}):(?P<minute>\\d{2})(?P<flag>[wsugz])?$"

-- a time of hours, minutes and seconds
abbrev pub hms_text : List ℕ
hms_text = codes "^(?P<sign>-?)(?P<hour>\\d{1,2}):(?P<minute>\\d{2}):(?P<second>\\d{2})(?P<flag>[wsugz])?$"
