use Rattle.std.proofs.Common.{ℕ, ◌+◌, ℤ, w64, to_z, of_z, arith, sym, subst}
use Rattle.tz_lookup.specs.Sets.{schedule_of}
use Rattle.zone_tail.{specs.Choices.{IsBest}, proofs.ChoiceLemmas.{better, no_better}, proofs.choice.best.Goals.{then-steps-from, else-steps-from}}
use Rattle.zone_tail.proofs.choice.best.Goals as goal

pub loop-i-preserved : goal.loop-i-preserved
loop-i-preserved g c =
    let candidates = c.args.candidates.now in
    let zone = schedule_of (g.S.SpanTable.seen c.args.set.now) in
    let last : ℤ = to_z w64 (of_z w64 c.args.last) in
    let i = c.loop-i.i in
    elim c.if-steps-from.branch [
      | then-steps-from w ↦
          subst (λ (f : ℕ). IsBest candidates zone last (i + 1) c.if-steps-from.best f) (sym w.from-is)
          (subst (λ (b : ℕ). IsBest candidates zone last (i + 1) b c.steps_of-steps.result) (sym w.best-is)
          (better candidates zone last i c.loop-i.best c.loop-i.from c.steps_of-steps.result c.loop-i.invariant c.steps_of-steps.ensures (omega arith)))
      | else-steps-from w ↦
          subst (λ (f : ℕ). IsBest candidates zone last (i + 1) c.if-steps-from.best f) (sym w.from-is)
          (subst (λ (b : ℕ). IsBest candidates zone last (i + 1) b c.loop-i.from) (sym w.best-is)
          (no_better candidates zone last i c.loop-i.best c.loop-i.from c.steps_of-steps.result c.loop-i.invariant c.steps_of-steps.ensures (omega arith)))
    ]
