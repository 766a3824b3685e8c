-- What a bounded table has at a name.
use Rattle.std.{proofs.Common.{◌≡◌, ℕ, List, Option, Some, sym, subst, ◌∙◌}, specs.Prelude.{IsTrue, IfSome}, specs.FinMap.{get}, specs.List.{list_all}}
use Rattle.zone_table.specs.{BoundedTables.{IsBoundedTable}, Bounds.{is_bounded_rule, is_bounded_info}, declared.rule.RuleInfo.{RuleInfo}, declared.table.Table.{Table}, declared.zone.ZoneInfo.{ZoneInfo}}

pub bounded_at : (table : Table) (name : List ℕ) (found : Option (List ZoneInfo)) (lines : List ZoneInfo)
    → found ≡ get table.zonesets name → found ≡ Some lines → IsBoundedTable table → IsTrue (list_all is_bounded_info lines)
bounded_at table name found lines is some bounded =
    subst (λ o. IfSome o (λ lines. IsTrue (list_all is_bounded_info lines))) (sym is ∙ some) (bounded.zones name)

pub bounded_rules_at : (table : Table) (name : List ℕ) (found : Option (List RuleInfo)) (rules : List RuleInfo)
    → found ≡ get table.rulesets name → found ≡ Some rules → IsBoundedTable table → IsTrue (list_all is_bounded_rule rules)
bounded_rules_at table name found rules is some bounded =
    subst (λ o. IfSome o (λ rules. IsTrue (list_all is_bounded_rule rules))) (sym is ∙ some) (bounded.rules name)
