-- Years in which no rule applies.
use Rattle.std.specs.{Prelude.{◌≡◌, ℕ, ◌+◌, ◌<◌, false, List, pos}, List.{list_any}}
use Rattle.zone_table.specs.{Moments.{applies_to_year}, declared.rule.RuleInfo.{RuleInfo}}
use Rattle.zone_spans.specs.Years.{earliest_year}

-- none of the rules applies to one of the first n years from the earliest on
abbrev pub AppliesToNone : List RuleInfo → ℕ → Type 0
AppliesToNone rules n = (i : ℕ) → i < n → list_any (λ r. applies_to_year r (pos (earliest_year + i))) rules ≡ false
