use Rattle.std.{proofs.Common.{◌∙◌, ap, arith, length, subst}, proofs.lemmas.Grind.{common_steps}, specs.Prelude.{All}}
use Rattle.zone_answers.{specs.Due.{shown_for}, specs.Found.{found_in_table}, specs.ReadBack.{IsReadBack}, proofs.ReadBackLemmas.{lines_back}}
use Rattle.zone_answers.proofs.answering.answer_all.Goals as goal

pub overflow_add-number : goal.overflow_add-number
overflow_add-number g c = omega (arith, c.new-line-items.ensures.few, c.loop-line.invariant.number, ap length c.in-Some.ensures.steps)

pub loop-line-preserved : goal.loop-line-preserved
loop-line-preserved g c = record {
  table = c.in_ok-answer.ensures.same ∙ c.loop-line.invariant.table;
  opened = c.in_ok-answer.ensures.opened;
  number = omega (arith, c.loop-line.invariant.number, ap length c.in-Some.ensures.steps);
  refused = grind (arith, common_steps);
  lines = grind (arith, common_steps);
  read_back = λ rest. c.loop-line.invariant.read_back
      (lines_back (found_in_table g.Z.OpenedZone.read c.args.table.now) c.in-Some.line.now _ _ c.in-Some.ensures.steps
      (subst (λ table. All IsReadBack (shown_for (found_in_table g.Z.OpenedZone.read table) c.in-Some.line.now)) c.loop-line.invariant.table
      c.in_ok-answer.ensures.read_back) rest);
}
