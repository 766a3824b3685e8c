-- Why a value may not follow the values before it, given the latest first.
use Rattle.std.specs.{Prelude.{◌≡◌, ℕ, Bool, List, [], ◌∷◌, Option, Some, None, is_some, if◌then◌else◌}, Option.{option_or}}
use Rattle.basics.specs.Listed.{listed}
use Rattle.zone_table.specs.{Values.{SavingValue, multiple, LineValue, zone, continuation, link}, Joined.{rules_of, zone_of, link_of, owner}}

pub data Refusal : Type 0 where
  surprise_continuation_line : Refusal
  unknown_ruleset : List ℕ → Refusal
  duplicate_link : List ℕ → Refusal
  duplicate_zone : Refusal

-- some rule has that name
abbrev pub has_ruleset : List LineValue → List ℕ → Bool
has_ruleset before name = is_some (listed (rules_of before name))

abbrev pub has_zone : List LineValue → List ℕ → Bool
has_zone before name = is_some (listed (zone_of before name))

abbrev pub has_link : List LineValue → List ℕ → Bool
has_link before name = is_some (link_of before name)

-- a saving by rules that no value before gives
abbrev pub refusal_of_saving : List LineValue → SavingValue → Option Refusal
refusal_of_saving before (multiple name) = if has_ruleset before name then None else Some (unknown_ruleset name)
refusal_of_saving before _ = None

-- a zone is tested for its ruleset first; the ruleset of a continuation is not tested, and a zone is no bar to a link of its name
abbrev pub refusal : List LineValue → LineValue → Option Refusal
refusal before (zone name info) =
    option_or (refusal_of_saving before info.saving) (if has_zone before name then Some duplicate_zone else None)
refusal before (continuation info) = if is_some (owner before) then None else Some surprise_continuation_line
refusal before (link existing name) = if has_link before name then Some (duplicate_link name) else None
refusal before value = None

-- none of the values is refused after those before it
abbrev pub Accepted : List LineValue → Type 0
Accepted [] = Unit {0}
Accepted (value ∷ before) = (refusal before value ≡ None) × Accepted before
