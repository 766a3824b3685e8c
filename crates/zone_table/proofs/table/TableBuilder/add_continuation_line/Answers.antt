use Rattle.std.proofs.Common.{◌≡◌, ◌∙◌}
use Rattle.zone_table.{specs.{Values.{info_value}, Owned.{owned_info}}, proofs.Steps.{continuation_joins, with_item}}
use Rattle.zone_table.proofs.table.TableBuilder.add_continuation_line.Goals as goal

pub returns-clause-ok : goal.returns-clause-ok
returns-clause-ok c =
    let zonesets = c.self.inside.table.zonesets in
    let info = info_value c.args.continuation_line in
    let is : c.append.new.self ≡ with_item zonesets c.in-Some.name (owned_info info) =
    c.in_ok-append.ensures.ok ∙ (λ i. with_item zonesets (c.as_str.ensures i) (c.in_ok-info.ensures i)) in
    continuation_joins _ _ c.self.view_is c.in-Some.name info c.append.new.self c.in-Some.is is
