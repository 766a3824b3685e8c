use Rattle.std.proofs.{Common.{◌≡◌, ℕ, ◌<◌, List, All, cond, take, IsTrue, length, get_or, sym, ap, ◌∙◌, subst, to_z, of_z, w64, ℤ, SFits}, lemmas.Int.{to_z-of_z}}
use Rattle.zone_table.specs.declared.rule.RuleInfo.{RuleInfo}
use Rattle.zone_spans.specs.{Bounds.{can_fire}, Fronts.{by_mark, with_placed}, Placed.{placed_at, placed_from}}
use Rattle.zone_spans.proofs.{PlacedLemmas.{applying_more}, SoundLemmas.{fires_in, has_years_of}, front.YearRules.add_applying.Goals.{then-applies_to_year+in_ok-add, else-applies_to_year}}
use Rattle.zone_spans.proofs.front.YearRules.add_applying.Goals as goal

can : (year : ℤ) (rules : List RuleInfo) (i : ℕ) (r : RuleInfo) → SFits w64 year → All (λ r. IsTrue (can_fire year r)) rules → i < length rules
    → r ≡ get_or rules i r → IsTrue (can_fire (to_z w64 (of_z w64 year)) r)
can year rules i r fits all l is =
    subst (λ y. IsTrue (can_fire y r)) (sym (to_z-of_z w64 year fits)) (subst (λ (q : RuleInfo). IsTrue (can_fire year q)) (sym is) (all i r l))

pub applies_to_year-requires : goal.applies_to_year-requires
applies_to_year-requires c =
    has_years_of _ c.index-rules-place.result (can c.args.year c.args.rules.now c.loop-place.place c.index-rules-place.result c.ranges.year c.requires.rules
    c.loop-place-test.true c.index-rules-place.is)

pub new-requires-clause-rule : goal.new-requires-clause-rule
new-requires-clause-rule c =
    fires_in _ c.index-rules-place.result (can c.args.year c.args.rules.now c.loop-place.place c.index-rules-place.result c.ranges.year c.requires.rules
    c.loop-place-test.true c.index-rules-place.is) (sym c.applies_to_year.ensures ∙ c.if-applies_to_year.true)

pub loop-place-preserved : goal.loop-place-preserved
loop-place-preserved c =
    let year : ℤ = to_z w64 (of_z w64 c.args.year) in
    let r = c.index-rules-place.result in
    let i = c.loop-place.place in
    let before = by_mark (placed_from year 0 (take i c.args.rules.now)) in
    let more = sym (applying_more year c.args.rules.now i r c.loop-place-test.true c.index-rules-place.is) in
    elim c.if-applies_to_year.branch [
      | then-applies_to_year+in_ok-add w ↦ w.self-is ∙ w.in_ok-add.ensures
          ∙ (λ k. with_placed (w.new.ensures k) (c.loop-place.invariant k))
          ∙ sym (ap (λ b. cond b (with_placed (placed_at year i r) before) before) (sym c.applies_to_year.ensures ∙ w.if-applies_to_year.true)) ∙ more
      | else-applies_to_year w ↦ w.self-is ∙ c.loop-place.invariant
          ∙ sym (ap (λ b. cond b (with_placed (placed_at year i r) before) before) (sym c.applies_to_year.ensures ∙ w.if-applies_to_year.false)) ∙ more
    ]
