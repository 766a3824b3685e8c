-- Lines of which each needs nothing where it stands.
use Rattle.std.specs.{Prelude.{◌≡◌, ℕ, List, [], ◌∷◌, ◌++◌, Bool, true, false, Option, Some, None, bytes_eq, flat_map, option_to_list}, List.{list_any}}
use Rattle.zone_table.specs.Values.{LineValue, zone, continuation, link}
use Rattle.zone_plain_lines.specs.Said.{is_said}
use Rattle.zone_plain.specs.{Declares.{has_zone}, Needs.{NeedsNothing}, Settled.{lacks_rules}}

-- the new name that a link gives
abbrev pub new_name : LineValue → Option (List ℕ)
new_name (link existing new) = Some new
new_name _ = None

-- the names that lines give
abbrev pub names_by : (LineValue → Option (List ℕ)) → List LineValue → List (List ℕ)
names_by name_of values = flat_map (λ v. option_to_list (name_of v)) values

abbrev pub has : List (List ℕ) → List ℕ → Bool
has names name = list_any (λ other. bytes_eq other name) names

-- none of the names is one of those before it
abbrev pub AreFresh : List (List ℕ) → List (List ℕ) → Type 0
AreFresh before [] = Unit {0}
AreFresh before (name ∷ names) = (has before name ≡ false) × AreFresh (before ++ name ∷ []) names

-- a link to a zone of a source, of a name that no zone of it has, which the plain form can say
pub record IsSoundLink (all : List LineValue) (existing new : List ℕ) : Type 0 where
  pub to_zone : has_zone all existing ≡ true
  pub no_zone : has_zone all new ≡ false
  pub said : is_said (link existing new) ≡ true

-- what a line needs of its source, apart from the lines before it
abbrev pub IsSound : List LineValue → LineValue → Type 0
IsSound all (continuation info) = lacks_rules all info.saving ≡ false
IsSound all (zone name info) = lacks_rules all info.saving ≡ false
IsSound all (link existing new) = IsSoundLink all existing new
IsSound all _ = Unit {0}

-- each line needs nothing behind those before it
abbrev pub AreClean : List LineValue → List LineValue → List LineValue → Type 0
AreClean all before [] = Unit {0}
AreClean all before (v ∷ values) = NeedsNothing all before v × AreClean all (before ++ v ∷ []) values
