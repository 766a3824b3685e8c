-- Why a source is refused, with the number of its line.
use Rattle.std.specs.{Prelude.{ℕ, suc, List, [], ◌∷◌, ◌++◌, Option, Some, None, option_map, reverse, Result, Ok, Err, if◌then◌else◌}, Option.{option_or}, Str.{is_utf8}}
use Rattle.zone_table.specs.{Values.{LineValue}, Refusals.{Refusal, surprise_continuation_line, unknown_ruleset, duplicate_link, duplicate_zone, refusal}}
use Rattle.zone_table.specs.Faults as line
use Rattle.zone_line.specs.LineValues.{value}
use Rattle.zone_source.specs.{declared.error.BuildKind.{BuildKind}, declared.error.BuildKind.TheVariants.{SurpriseContinuationLine, UnknownRuleset, DuplicateLink, DuplicateZone}, Lines.{lines_of}, Zones.{source_value}}

-- a line that is no text, one with a fault, and one that may not follow those before it
pub data SourceFault : Type 0 where
  not_text : ℕ → SourceFault
  bad_line : ℕ → line.Fault → SourceFault
  bad_join : ℕ → BuildKind → SourceFault

-- the kind of a refusal to join, without its name
abbrev pub kind_of : Refusal → BuildKind
kind_of surprise_continuation_line = SurpriseContinuationLine
kind_of (unknown_ruleset name) = UnknownRuleset
kind_of (duplicate_link name) = DuplicateLink
kind_of duplicate_zone = DuplicateZone

-- why a line of this value is refused after these values
abbrev pub join_refusal : List LineValue → ℕ → LineValue → Option SourceFault
join_refusal before n read = option_map (λ refused. bad_join n (kind_of refused)) (refusal (reverse before) read)

-- what a line is refused for that has this value, after these values
abbrev pub value_refusal : List LineValue → ℕ → Result LineValue line.Fault → Option SourceFault
value_refusal before n (Ok read) = join_refusal before n read
value_refusal before n (Err refused) = Some (bad_line n refused)

-- why the nth line is refused after these values
abbrev pub line_refusal : List LineValue → ℕ → List ℕ → Option SourceFault
line_refusal before n line = if is_utf8 line then value_refusal before n (value line) else Some (not_text n)

-- why the first of these lines, counted from n on, is refused after these values, if one is
abbrev pub first_line_refused : List LineValue → ℕ → List (List ℕ) → Option SourceFault
first_line_refused before n [] = None
first_line_refused before n (line ∷ lines) =
    option_or (line_refusal before n line) (first_line_refused (before ++ source_value line ∷ []) (suc n) lines)

unfoldable pub source_fault : List ℕ → Option SourceFault
source_fault source = first_line_refused [] 1 (lines_of source)
