-- Years that need not be tested again for the days of rules.
use Rattle.std.specs.{Prelude.{◌≡◌, ℕ, false, List}, List.{list_any}}
use Rattle.zone_table.specs.declared.rule.RuleInfo.{RuleInfo}
use Rattle.zone_spans.specs.Faults.{is_outside, some_year}

-- in none of the first n years from the earliest on does the day of one of the rules lie in another year
abbrev pub NoneLeaves : List RuleInfo → ℕ → Type 0
NoneLeaves rules n = list_any (λ rule. some_year (is_outside rule) n) rules ≡ false
