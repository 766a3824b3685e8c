-- What a builder is seen as, and the values that it stands for.
use Rattle.std.specs.{Prelude.{◌≡◌, ℕ, List, [], ◌∷◌, ◌++◌, Option, Some, None, IfSome, reverse, refl, string_bytes}, Coded.{Coded, code_by, coded×, coded_list, coded_ℕ, coded_option}}
use Rattle.zone_table.specs.{Values.{LineValue}, Joined.{owner}, Refusals.{Refusal, surprise_continuation_line, unknown_ruleset, duplicate_link, duplicate_zone, refusal, Accepted}, Tables.{IsTableOfLatest}, declared.error.Error.{Error}, declared.table.Table.{Table}}
use Rattle.zone_table.specs.declared.error.Error.TheVariants as error

-- the table so far, and the name of the zone that is open, if one is
pub record Built : Type 0 where
  pub table : Table
  pub open_zone : Option (List ℕ)

-- a builder is stored as its table and the open zone's name
abbrev pub built_code : Coded Table → Coded Built
built_code table =
    code_by (Table × Option (List ℕ)) (coded× table (coded_option (coded_list coded_ℕ)))
    (λ built. (built.table, built.open_zone)) (λ pair. record { table = pair.0; open_zone = pair.1 }) (λ _. refl)

-- the builder accepted the values, given the latest first: its table is theirs, and its open zone is the one to which a
-- continuation would belong
pub record StandsForLatest (built : Built) (latest : List LineValue) : Type 0 where
  pub accepted : Accepted latest
  pub joined : IsTableOfLatest built.table latest
  pub open_zone : built.open_zone ≡ owner latest

-- the same of values in their order
abbrev pub StandsFor : Built → List LineValue → Type 0
StandsFor built values = StandsForLatest built (reverse values)

-- whatever values the builder stood for, it now stands for them and the value after them
abbrev pub Joins : Built → Built → LineValue → Type 0
Joins old new value = (values : List LineValue) → StandsFor old values → StandsFor new (values ++ value ∷ [])

-- the refusal that an error tells; want of memory tells none
abbrev pub refusal_of : Error → Option Refusal
refusal_of error.SurpriseContinuationLine = Some surprise_continuation_line
refusal_of (error.UnknownRuleset name) = Some (unknown_ruleset (string_bytes name))
refusal_of (error.DuplicateLink name) = Some (duplicate_link (string_bytes name))
refusal_of error.DuplicateZone = Some duplicate_zone
refusal_of error.NoMemory = None

-- the error tells why the value may not follow the values that the builder stood for, whatever these were, or memory ran out
abbrev pub IsCause : Built → LineValue → Error → Type 0
IsCause old value e =
    IfSome (refusal_of e) (λ refused. (values : List LineValue) → StandsFor old values → refusal (reverse values) value ≡ Some refused)
