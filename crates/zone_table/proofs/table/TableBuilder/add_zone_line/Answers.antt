use Rattle.std.proofs.Common.{ap, sym, subst, ◌∙◌}
use Rattle.zone_table.{specs.Values.{info_value, saving_value}, proofs.{Steps.{zone_joins, with_item, HasRuleset, not_by_ruleset}, table.TableBuilder.add_zone_line.Goals.{in-Multiple+else-not-contains_key, in_default}}}
use Rattle.zone_table.proofs.table.TableBuilder.add_zone_line.Goals as goal

pub returns-clause-ok : goal.returns-clause-ok
returns-clause-ok c =
    let table = c.self.inside.table in
    let name = c.args.zone_line.name.now in
    let info = info_value c.args.zone_line.info in
    let is = c.in_ok-append.ensures.ok ∙ ap (with_item table.zonesets name) c.in_ok-info.ensures in
    let has : HasRuleset table info.saving = elim c.match-zone_line.branch [
      | in-Multiple+else-not-contains_key w ↦
          subst (λ saving. HasRuleset table (saving_value saving)) (sym w.in-Multiple.is)
          (sym w.contains_key.ensures ∙ w.if-not-contains_key.false)
      | in_default w ↦ not_by_ruleset table _ w.in_default.not-Multiple
    ] in
    zone_joins _ _ c.self.view_is name c.in_ok-name.name info c.append.new.self has
    (sym c.contains_key-2.ensures ∙ c.if-contains_key.false) c.in_ok-name.ensures is
