use Rattle.std.{proofs.Common.{length, None, ap, ◌∙◌, subst, sym}, specs.List.{list_all}}
use Rattle.zone_table.specs.LineBounds.{are_small_seconds}
use Rattle.zone_spans.{specs.Bounds.{is_bounded_firing}, specs.Cuts.{IsCut}, proofs.GoesOnLemmas.{cut_of, no_saving, none_fired}}
use Rattle.zone_spans.proofs.turns.fire_cycle.Goals as goal

pub fire_years-requires-clause-saving : goal.fire_years-requires-clause-saving
fire_years-requires-clause-saving c =
    let line = c.args.line.now in
    c.requires.saving ∙ no_saving line.info.offset line.end line.rules

pub fire_years-requires-clause-small : goal.fire_years-requires-clause-small
fire_years-requires-clause-small c = record {
  fired = ap (list_all is_bounded_firing) c.requires.fired;
  saving = ap are_small_seconds c.requires.saving;
}

pub returns-clause-cut : goal.returns-clause-cut
returns-clause-cut c =
    let line = c.args.line.now in
    let first = c.fire_years.new.self.fired.items in
    let begun = c.in_ok-fire_years.ensures.stands None (none_fired line.info.offset line.end line.rules c.args.firings.now.fired.items c.requires.fired) in
    subst (λ n. IsCut line n c.fire_years-2.new.self.fired.items) (sym (ap length c.as_slice-count.ensures.value))
    (cut_of line first c.fire_years-2.new.self.fired.items c.requires.end begun (c.in_ok-fire_years-2.ensures.stands None begun))
