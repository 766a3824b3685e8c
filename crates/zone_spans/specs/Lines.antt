-- The lines of a zone, each with what a schedule takes from it.
use Rattle.std.specs.Prelude.{ℕ, ℤ, pos, Bool, true, false, List, [], ◌∷◌, Option, None, is_some, unwrap_or}
use Rattle.zone_table.specs.{declared.change.ChangeTime.{ChangeTime}, declared.{rule.RuleInfo.{RuleInfo}, zone.Saving.{Saving}, zone.Saving.TheVariants.{NoSaving, OneOff, Multiple}, zone.ZoneInfo.{ZoneInfo}}}

-- what is found by a ruleset's name
abbrev pub Rulesets : Type 0
Rulesets = List ℕ → Option (List RuleInfo)

-- a line with the rules that it names, and its end: that of the last line has no part in anything
pub record Line : Type 0 where
  pub info : ZoneInfo
  pub rules : List RuleInfo
  pub end : Option ChangeTime

-- the saving is what rules say
abbrev pub is_ruled : Saving → Bool
is_ruled (Multiple name) = true
is_ruled _ = false

-- what is added for as long as the line holds, where no rules say it
abbrev pub fixed_saving : Saving → ℤ
fixed_saving NoSaving = pos 0
fixed_saving (OneOff seconds) = seconds
fixed_saving (Multiple name) = pos 0

-- the ruleset that the saving names is there
abbrev pub is_known : Rulesets → Saving → Bool
is_known rulesets (Multiple name) = is_some (rulesets name)
is_known rulesets _ = true

-- the rules of the ruleset that the saving names
abbrev pub rules_named : Rulesets → Saving → List RuleInfo
rules_named rulesets (Multiple name) = unwrap_or (rulesets name) []
rules_named rulesets _ = []

-- the end of the first of these lines, where others follow
abbrev pub end_before : List ZoneInfo → Option ChangeTime
end_before [] = None
end_before (info ∷ []) = None
end_before (info ∷ next ∷ infos) = info.end_time

unfoldable pub zone_lines : Rulesets → List ZoneInfo → List Line
zone_lines rulesets [] = []
zone_lines rulesets (info ∷ infos) =
    record { info = info; rules = rules_named rulesets info.saving; end = end_before (info ∷ infos) } ∷ zone_lines rulesets infos
