use Rattle.std.proofs.Common.{ap, ◌∙◌}
use Rattle.zone_table.{specs.Values.{rule_value}, proofs.Steps.{rule_joins, with_item}}
use Rattle.zone_table.proofs.table.TableBuilder.add_rule_line.Goals as goal

pub returns-clause-ok : goal.returns-clause-ok
returns-clause-ok c =
    let is = c.in_ok-append.ensures.ok ∙ ap (with_item c.self.inside.table.rulesets c.args.rule_line.name.now) c.in_ok-info.ensures in
    rule_joins _ _ c.self.view_is (rule_value c.args.rule_line) c.append.new.self is
