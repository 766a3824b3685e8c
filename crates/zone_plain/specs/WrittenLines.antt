-- The lines of what is written.
use Rattle.std.specs.{Prelude.{◌≡◌, ℕ, List, ◌++◌, All, false, filter, reverse}, Str.Lines.{strip_carriage_return}}
use Rattle.zone_table.specs.{Values.{LineValue}, Joined.{rules_of, zone_of, link_of}}
use Rattle.zone_source.specs.Lines.{is_line_feed}
use Rattle.zone_plain_lines.specs.PlainTexts.{plain_text}
use Rattle.zone_plain.specs.Written.{Rules, Zones, Links, is_in}

-- the text has no line feed, and no carriage return at its end
pub record IsLine (text : List ℕ) : Type 0 where
  pub unbroken : All (λ byte. is_line_feed byte ≡ false) text
  pub kept : strip_carriage_return text ≡ text

abbrev pub IsOneLine : LineValue → Type 0
IsOneLine v = IsLine (plain_text v)

-- the rules, then the zones, then the links, each in their order
abbrev pub in_parts : List LineValue → List LineValue
in_parts values = (filter (is_in Rules) values ++ filter (is_in Zones) values) ++ filter (is_in Links) values

-- the lines of one source have the rulesets, the zones and the links that those of another have
pub record JoinAlike (one other : List LineValue) : Type 0 where
  pub rules : (name : List ℕ) → rules_of (reverse one) name ≡ rules_of (reverse other) name
  pub zones : (name : List ℕ) → zone_of (reverse one) name ≡ zone_of (reverse other) name
  pub links : (name : List ℕ) → link_of (reverse one) name ≡ link_of (reverse other) name
