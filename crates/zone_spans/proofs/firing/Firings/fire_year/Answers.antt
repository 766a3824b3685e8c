use Rattle.std.proofs.{Common.{◌≡◌, ◌-◌, ◌+◌, ◌∷◌, [], ◌⊎◌, inl, inr, Option, None, length, refl, sym, ap, ◌∙◌, subst, arith, rules, to_z, of_z, w64, SFits, ℤ, IsTrue}, lemmas.Int.{to_z-of_z}, lemmas.List.Folds.{list_all-append}}
use Rattle.std.specs.List.{list_all}
use Rattle.zone_table.specs.{LineBounds.{are_small_seconds}, declared.change.ChangeTime.{ChangeTime}}
use Rattle.zone_spans.specs.{Bounds.{is_bounded_firing, is_small}, Fires.{Fires, after}, Firings.{Firing, year_firings}, Fronts.{fronts_of, next_firing}, Lines.{Line}, Placed.{placed_from}, declared.front.YearRules.{YearRules}}
use Rattle.zone_spans.proofs.{BoundLemmas.{both, second}, FrontLemmas.{owes_begun, owes_next, owes_none}, firing.Firings.fire_year.Goals.{else-loop-i-test, then-loop-i-test+in_default}}
use Rattle.zone_spans.proofs.firing.Firings.fire_year.Goals as goal

pub loop-i-init : goal.loop-i-init
loop-i-init c =
    let line = c.args.line.now in
    let year : ℤ = to_z w64 (of_z w64 c.args.year) in
    record {
      owes = owes_begun year line.info.offset c.args.end _ line.rules (length line.rules - 0) c.args.self.now.fired.items c.args.self.now.saving
          c.fronts-fronts.result (omega arith)
          (c.fronts-fronts.ensures ∙ c.in_ok-rules.ensures ∙ ap (λ (l : Line). fronts_of (placed_from year 0 l.rules)) c.line.view_is) refl;
      small = c.requires.small;
    }

-- what fires next, by the numbers as they were passed
passed : (end : Option ChangeTime) (inside line : Line) (saving : ℤ) (fronts : YearRules) → inside ≡ line → SFits w64 inside.info.offset → SFits w64 saving
    → next_firing end (to_z w64 (of_z w64 inside.info.offset)) (to_z w64 (of_z w64 saving)) fronts ≡ next_firing end line.info.offset saving fronts
passed end inside line saving fronts same f g =
    λ i. next_firing end ((to_z-of_z w64 inside.info.offset f ∙ ap (λ (l : Line). l.info.offset) same) i) (to_z-of_z w64 saving g i) fronts

pub loop-i-preserved : goal.loop-i-preserved
loop-i-preserved c =
    let line = c.args.line.now in
    let fired = c.in-Some.firing in
    let before = c.loop-i.self in
    let f : SFits w64 c.line.inside.info.now.offset = search rules in
    let g : SFits w64 before.saving = search rules in
    let h : SFits w64 c.firing.inside.rule.now.time_to_add = search rules in
    let saving_is = to_z-of_z w64 c.firing.inside.rule.now.time_to_add h ∙ ap (λ (x : Firing). x.rule.time_to_add) c.firing.view_is in
    let small : IsTrue (is_bounded_firing fired) = c.in-Some.ensures.small in
    record {
      owes = owes_next (to_z w64 (of_z w64 c.args.year)) line.info.offset c.args.end _ (length line.rules - c.loop-i.i) (length line.rules - (c.loop-i.i + 1))
          before.fired.items c.push.new.self.items before.saving (to_z w64 (of_z w64 c.firing.inside.rule.now.time_to_add)) c.loop-i.fronts c.next.new.self fired
          c.loop-i.invariant.owes (c.in-Some.ensures.firing ∙ passed c.args.end _ line before.saving c.loop-i.fronts c.line.view_is f g) (omega arith)
          c.in_ok-push.ensures.items saving_is c.in-Some.ensures.left;
      small = record {
        fired = ap (list_all is_bounded_firing) c.in_ok-push.ensures.items ∙ list_all-append is_bounded_firing before.fired.items (fired ∷ [])
            ∙ both (list_all is_bounded_firing before.fired.items) _ c.loop-i.invariant.small.fired (both (is_bounded_firing fired) _ small refl);
        saving = subst (λ s. IsTrue (are_small_seconds s)) (sym saving_is) (second (is_small fired.time) _ small);
      };
    }

pub returns-clause-fired : goal.returns-clause-fired
returns-clause-fired c =
    let line = c.args.line.now in
    let f : SFits w64 c.line.inside.info.now.offset = search rules in
    let g : SFits w64 c.loop-i.self.saving = search rules in
    let count = length line.rules - c.loop-i.i in
    let none : (count ≡ 0) ⊎ (None ≡ next_firing c.args.end line.info.offset c.loop-i.self.saving c.loop-i.fronts) =
    elim c.loop-i-test.branch [
      | else-loop-i-test w ↦ inl (omega (arith, w.loop-i-test.false, ap (λ (l : Line). length l.rules) c.line.view_is))
      | then-loop-i-test+in_default w ↦ inr (w.in_default.ensures.firing ∙ passed c.args.end _ line c.loop-i.self.saving c.loop-i.fronts c.line.view_is f g)
    ] in
    let done = owes_none _ line.info.offset c.args.end _ count c.loop-i.self.fired.items c.loop-i.self.saving c.loop-i.fronts c.loop-i.invariant.owes none in
    subst (λ y. Fires c.loop-i.self (after c.args.self.now (year_firings y line.info.offset c.args.end c.args.self.now.saving line.rules)))
    (to_z-of_z w64 c.args.year c.ranges.year) (record { fired = done.0; saving = done.1 })
