-- Worked rows of what lines join to, whatever their rules and zone lines say. Each list has the latest first.
use Rattle.std.specs.{Prelude.{◌≡◌, ℕ, List, [], ◌∷◌, map, Option, Some, None, codes, string_bytes, refl}, declared.alloc.Global.{Global}, declared.string.String.{String}}
use Rattle.zone_table.specs.{declared.change.ChangeTime.{ChangeTime}, declared.time.TimeSpec.{TimeSpec}, Values.{SavingValue, no_saving, multiple, InfoValue, RuleValue, space, zone, continuation, rule, link}, Built.{refusal_of}, Joined.{rules_of, zone_of, owner}, Owned.{owned_rule, owned_info}, Refusals.{surprise_continuation_line, unknown_ruleset, duplicate_link, duplicate_zone, refusal, Accepted}, Resolved.{resolved}}
use Rattle.zone_table.specs.declared.error.Error.TheVariants as error

-- a zone line with that saving
abbrev with_saving : TimeSpec → SavingValue → Option ChangeTime → InfoValue
with_saving offset saving end = record { utc_offset = offset; saving = saving; format = codes "F"; time = end }

-- the rule with that name
abbrev named : List ℕ → RuleValue → RuleValue
named name r = record r { name = name }

module _ (r s t : RuleValue) where
  -- the rules of a name in order, without those of another
  rules_in_order : rules_of (rule (named (codes "R") t) ∷ rule (named (codes "S") s) ∷ rule (named (codes "R") r) ∷ []) (codes "R")
      ≡ owned_rule r ∷ owned_rule t ∷ []
  rules_in_order = refl

  -- a name of other letters is another name, also where they differ in case alone
  rules_by_case : rules_of (rule (named (codes "r") r) ∷ []) (codes "R") ≡ []
  rules_by_case = refl

module _ (offset : TimeSpec) (end : Option ChangeTime) (first second : InfoValue) (r : RuleValue) where
  -- a blank line does not close a zone
  continued : zone_of (continuation second ∷ space ∷ zone (codes "A") first ∷ []) (codes "A") ≡ owned_info first ∷ owned_info second ∷ []
  continued = refl

  -- nor does a continuation
  three_lines : zone_of (continuation first ∷ continuation second ∷ zone (codes "A") first ∷ []) (codes "A")
      ≡ owned_info first ∷ owned_info second ∷ owned_info first ∷ []
  three_lines = refl

  -- a zone after another takes the continuations from then on
  apart : zone_of (continuation second ∷ zone (codes "B") first ∷ zone (codes "A") first ∷ []) (codes "A") ≡ owned_info first ∷ []
  apart = refl

  -- rules and links close it
  closed_by_rule : owner (space ∷ rule r ∷ zone (codes "A") first ∷ []) ≡ None
  closed_by_rule = refl

  closed_by_link : owner (link (codes "A") (codes "B") ∷ zone (codes "A") first ∷ []) ≡ None
  closed_by_link = refl

  surprise : refusal (link (codes "A") (codes "B") ∷ zone (codes "A") first ∷ []) (continuation second) ≡ Some surprise_continuation_line
  surprise = refl

  -- a zone of an earlier name that names an unknown ruleset
  unknown : refusal (zone (codes "A") first ∷ []) (zone (codes "A") (with_saving offset (multiple (codes "X")) end))
      ≡ Some (unknown_ruleset (codes "X"))
  unknown = refl

  -- a ruleset of an earlier rule, with other lines between them, is known
  known : refusal (link (codes "a") (codes "b") ∷ space ∷ rule (named (codes "X") r) ∷ [])
      (zone (codes "A") (with_saving offset (multiple (codes "X")) end)) ≡ None
  known = refl

  -- rules and blank lines are never refused, in an open zone or twice
  rules_and_blank_lines : map (refusal (zone (codes "A") first ∷ rule r ∷ [])) (rule r ∷ space ∷ []) ≡ None ∷ None ∷ []
  rules_and_blank_lines = refl

  -- a value that is refused is not accepted, whatever comes after it
  refused_before : Accepted (space ∷ continuation first ∷ []) → ⊥
  refused_before accepted = cc (accepted.1.0)

  duplicate : refusal (space ∷ zone (codes "A") first ∷ []) (zone (codes "A") (with_saving offset no_saving end)) ≡ Some duplicate_zone
  duplicate = refl

  -- the ruleset of a continuation is not tested
  untested : refusal (zone (codes "A") first ∷ []) (continuation (with_saving offset (multiple (codes "X")) end)) ≡ None
  untested = refl

  second_link : refusal (link (codes "a") (codes "b") ∷ []) (link (codes "c") (codes "b")) ≡ Some (duplicate_link (codes "b"))
  second_link = refl

  -- a zone is no bar to a link of its name, and then it is found first
  link_of_zone_name : refusal (zone (codes "B") first ∷ zone (codes "A") second ∷ []) (link (codes "A") (codes "B")) ≡ None
  link_of_zone_name = refl

  zone_before_link : resolved (link (codes "A") (codes "B") ∷ zone (codes "B") first ∷ zone (codes "A") second ∷ []) (codes "B")
      ≡ Some (owned_info first ∷ [])
  zone_before_link = refl

  -- nor is a link one to a zone of its name
  zone_of_link_name : refusal (link (codes "A") (codes "B") ∷ zone (codes "A") first ∷ []) (zone (codes "B") (with_saving offset no_saving end)) ≡ None
  zone_of_link_name = refl

  -- names of zones and links that differ in case alone are two
  zone_by_case : zone_of (zone (codes "a") first ∷ []) (codes "A") ≡ []
  zone_by_case = refl

  two_zones_by_case : refusal (zone (codes "a") first ∷ []) (zone (codes "A") (with_saving offset no_saving end)) ≡ None
  two_zones_by_case = refl

  link_by_case : resolved (link (codes "A") (codes "b") ∷ zone (codes "A") first ∷ []) (codes "B") ≡ None
  link_by_case = refl

  two_links_by_case : refusal (link (codes "a") (codes "b") ∷ []) (link (codes "c") (codes "B")) ≡ None
  two_links_by_case = refl

  unknown_by_case : refusal (rule (named (codes "r") r) ∷ []) (zone (codes "A") (with_saving offset (multiple (codes "R")) end))
      ≡ Some (unknown_ruleset (codes "R"))
  unknown_by_case = refl

  -- one link is followed, and no second
  one_link : resolved (link (codes "B") (codes "C") ∷ link (codes "A") (codes "B") ∷ zone (codes "A") first ∷ []) (codes "B")
      ≡ Some (owned_info first ∷ [])
  one_link = refl

  two_links : resolved (link (codes "B") (codes "C") ∷ link (codes "A") (codes "B") ∷ zone (codes "A") first ∷ []) (codes "C") ≡ None
  two_links = refl

module _ (name : String Global) where
  -- each error tells its own refusal with its name, and want of memory none
  told : map refusal_of (error.SurpriseContinuationLine ∷ error.UnknownRuleset name ∷ error.DuplicateLink name ∷ error.DuplicateZone ∷ error.NoMemory ∷ [])
      ≡ Some surprise_continuation_line ∷ Some (unknown_ruleset (string_bytes name)) ∷ Some (duplicate_link (string_bytes name))
      ∷ Some duplicate_zone ∷ None ∷ []
  told = refl
