use Rattle.std.{proofs.Common.{◌++◌, Option, sym, ap, ◌∙◌, subst, rules, to_z, of_z, w64, SFits, IsTrue}, specs.List.{list_all}, proofs.lemmas.Int.{to_z-of_z}}
use Rattle.zone_table.specs.declared.change.ChangeTime.{ChangeTime}
use Rattle.zone_spans.{specs.Bounds.{can_fire, is_end}, specs.Firings.{Fired, year_firings}, specs.Lines.{Line}, proofs.SoundLemmas.{bounded_offset, sound_end, sound_rules}, proofs.YearLemmas.{next_year, stands_year}}
use Rattle.zone_spans.proofs.firing.Firings.fire_years.Goals as goal

pub fire_year-requires-clause-rules : goal.fire_year-requires-clause-rules
fire_year-requires-clause-rules c =
    let f : SFits w64 c.from-year.result = search rules in
    let year_is = to_z-of_z w64 c.from-year.result f ∙ c.from-year.ensures in
    subst (λ y. IsTrue (list_all (can_fire y) c.args.line.now.rules)) (sym year_is)
    (sound_rules c.args.line.now c.requires.line c.loop-i.i c.loop-i-test.true)

pub fire_year-requires-clause-end : goal.fire_year-requires-clause-end
fire_year-requires-clause-end c =
    subst (λ (e : Option ChangeTime). IsTrue (is_end e)) (ap (λ (l : Line). l.end) (sym c.line.view_is))
    (sound_end c.args.line.now c.requires.line)

pub fire_year-requires-clause-offset : goal.fire_year-requires-clause-offset
fire_year-requires-clause-offset c = bounded_offset c.args.line.now c.requires.line.bounded

pub loop-i-preserved : goal.loop-i-preserved
loop-i-preserved c =
    let line = c.args.line.now in
    let f : SFits w64 c.from-year.result = search rules in
    let year = to_z w64 (of_z w64 c.from-year.result) in
    let saving = c.loop-i.self.saving in
    let here = c.in_ok-fire_year.ensures.fired in
    let ends = ap (λ (l : Line). year_firings year line.info.offset l.end saving line.rules) c.line.view_is in
    let next = next_year line.info.offset line.end line.rules c.loop-i.i year saving (to_z-of_z w64 c.from-year.result f ∙ c.from-year.ensures)
    c.loop-i.invariant.saving in
    record {
      stands = λ start stood. stands_year start _ (year_firings year line.info.offset line.end saving line.rules).0 _ c.loop-i.self.fired.items
          c.fire_year.new.self.fired.items (ap (λ (l : Fired). l.0) next) (here.fired ∙ ap (λ (l : Fired). c.loop-i.self.fired.items ++ l.0) ends)
          (c.loop-i.invariant.stands start stood);
      saving = here.saving ∙ ap (λ (l : Fired). l.1) ends ∙ ap (λ (l : Fired). l.1) (sym next);
      small = c.in_ok-fire_year.ensures.small;
    }
