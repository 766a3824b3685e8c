use Rattle.std.{proofs.Common.{ap, sym, ◌∙◌}, specs.FinMap.{insert}}
use Rattle.zone_table.proofs.Steps.{link_joins}
use Rattle.zone_table.proofs.table.TableBuilder.add_link_line.Goals as goal

pub returns-clause-ok : goal.returns-clause-ok
returns-clause-ok c =
    let name = c.args.link_line.new.now in
    let existing = c.args.link_line.existing.now in
    let is = c.in_ok-insert.ensures.ok ∙ ap (insert c.self.inside.table.links name) c.in_ok-existing.ensures in
    link_joins _ _ c.self.view_is existing name c.insert.new.self (sym c.contains_key.ensures ∙ c.if-contains_key.false) is
