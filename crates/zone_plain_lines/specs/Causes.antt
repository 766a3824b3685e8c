-- The names of causes.
use Rattle.std.specs.Prelude.{ℕ, List, [], ◌∷◌, get_or, codes}
use denote.Enum.Declared.{tag_of as place_among}
use Rattle.zone_plain_lines.specs.{contracts.cause.PlainCause.{the_type as causes}, declared.cause.PlainCause.{PlainCause}}

-- in the order of the variants
abbrev pub cause_names : List (List ℕ)
cause_names =
    codes "not text" ∷ codes "Quotes" ∷ codes "LineType" ∷ codes "FieldCount" ∷ codes "RulesetName" ∷ codes "Year" ∷ codes "YearOrder"
    ∷ codes "Type" ∷ codes "Month" ∷ codes "Day" ∷ codes "Time" ∷ codes "Saving" ∷ codes "Format" ∷ codes "Unsayable" ∷ codes "Continuation"
    ∷ codes "UnknownRuleset" ∷ codes "DuplicateZone" ∷ codes "LinkIsZone" ∷ codes "DuplicateLink" ∷ codes "Target" ∷ codes "Name" ∷ []

abbrev pub cause_name : PlainCause → List ℕ
cause_name cause = get_or cause_names (place_among causes cause) []
