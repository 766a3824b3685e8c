-- The abbreviations of lines, as a table of zones has them.
use Rattle.std.specs.{Prelude.{◌≡◌, ℕ, ℤ, pos, ◌+ℤ◌, ◌++◌, List, All, map, reverse, Option, Some, None, option_map}, Option.{option_and_then}}
use Rattle.zone_table.specs.{Seconds.{seconds_of}, Values.{SavingValue, no_saving, one_off, multiple, InfoValue, LineValue, zone, continuation}, Formats.{abbreviation}, Joined.{rules_of}, Owned.{owned_info}, declared.rule.RuleInfo.{RuleInfo}}
use Rattle.zone_plain.specs.{Made.{made_info}, OffsetTexts.{offset_text}}

-- what a line says of a stretch of time
abbrev pub info_in : LineValue → Option InfoValue
info_in (zone name info) = Some info
info_in (continuation info) = Some info
info_in _ = None

-- the ruleset in RULES
abbrev pub named_by : SavingValue → Option (List ℕ)
named_by (multiple name) = Some name
named_by _ = None

abbrev pub ruleset_in : LineValue → Option (List ℕ)
ruleset_in v = option_and_then (λ info. named_by info.saving) (info_in v)

-- the saving of a line without a ruleset, in seconds
abbrev pub own_saving : SavingValue → Option ℤ
own_saving no_saving = Some (pos 0)
own_saving (one_off amount) = Some (seconds_of amount)
own_saving (multiple name) = None

-- the abbreviation of a line under a rule
abbrev pub abbreviation_under : RuleInfo → LineValue → Option (List ℕ)
abbreviation_under r v = option_map (λ info. abbreviation (owned_info info).format r.time_to_add r.letters) (info_in v)

-- the abbreviation of a line without a ruleset, under its own saving
abbrev pub own_abbreviation : ℤ → LineValue → Option (List ℕ)
own_abbreviation saving v = option_map (λ info. abbreviation (owned_info info).format saving None) (info_in v)

-- FORMAT with the text of a total between its parts
abbrev pub named_total : List ℕ → List ℕ → ℤ → List ℕ
named_total before after total = (before ++ offset_text total) ++ after

-- what is written of a line of these values under a ruleset: it names one that a table has of what is written; its rules are those of the
-- ruleset, in their order, but for their letters; and under each the abbreviation is FORMAT with the text of STDOFF and SAVE
pub record IsNamedUnder (values out : List LineValue) (offset : ℤ) (rules before after : List ℕ) (v : LineValue) : Type 0 where
  pub name : List ℕ
  pub names : ruleset_in v ≡ Some name
  pub its_rules : rules_of (reverse out) name ≡ map (made_info offset) (rules_of (reverse values) rules)
  pub texts : All (λ r. abbreviation_under r v ≡ Some (named_total before after (offset +ℤ r.time_to_add))) (rules_of (reverse out) name)
