-- The kind of a line: the first of the patterns, in their order, that matches it.
use Rattle.std.specs.{Prelude.{ℕ, List, [], ◌∷◌, Bool, not, ◌&&◌, ◌||◌, ◌==◌, length, slice_index, Option, Some, None, option_map, is_some, if◌then◌else◌}, List.{list_all}}
use Rattle.zone_line.specs.{Options.{first_some}, Patterns.{match_in}, Texts.{empty_text}, Columns.{ZoneTexts, InfoTexts, RuleTexts, LinkTexts, zone_columns, continuation_columns, rule_columns, link_columns}}

-- a kind of line, with what the groups of its pattern take
pub data LineKind : Type 0 where
  space : LineKind
  zone : ZoneTexts → LineKind
  continuation : InfoTexts → LineKind
  rule : RuleTexts → LineKind
  link : LinkTexts → LineKind

-- the line is blank or a comment
unfoldable pub is_blank : List ℕ → Bool
is_blank line = is_some (match_in empty_text line)

-- the byte is no line feed
abbrev pub is_no_feed : ℕ → Bool
is_no_feed byte = not (byte == 10)

-- the line is empty, or begins with `#` and has no line feed
unfoldable pub is_plainly_blank : List ℕ → Bool
is_plainly_blank line = length line == 0 || (slice_index line 0 == 35 && list_all is_no_feed line)

unfoldable pub kind_of : List ℕ → Option LineKind
kind_of line = first_some (
    (if is_blank line then Some space else None)
    ∷ option_map zone (zone_columns line)
    ∷ option_map continuation (continuation_columns line)
    ∷ option_map rule (rule_columns line)
    ∷ option_map link (link_columns line)
    ∷ [])
