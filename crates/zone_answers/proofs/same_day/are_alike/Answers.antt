use Rattle.std.proofs.{Common.{◌∙◌, sym}, lemmas.Bool.{ne_eqb}}
use Rattle.zone_answers.proofs.SameDayLemmas.{alike_is, other_end, other_length, too_short}
use Rattle.zone_answers.proofs.same_day.are_alike.Goals.{then-one-other-via-then-one-other, then-one-other-via-else-one-other+then-one-le-LAST}
use Rattle.zone_answers.proofs.same_day.are_alike.Goals as goal

pub returns-then-one-other-clause-is : goal.returns-then-one-other-clause-is
returns-then-one-other-clause-is c =
    elim c.then-one-other.branch [
      | then-one-other-via-then-one-other w ↦ sym (other_length c.args.one.now c.args.other.now w.if-one-other.true)
      | then-one-other-via-else-one-other+then-one-le-LAST w ↦ sym (too_short c.args.one.now c.args.other.now w.if-one-le-LAST.true)
    ]

pub returns-then-one-end-clause-is : goal.returns-then-one-end-clause-is
returns-then-one-end-clause-is c =
    c.eq.ensures ∙ sym (alike_is c.args.one.now c.args.other.now c.if-one-other.false c.if-one-le-LAST.false)

pub returns-else-one-end-clause-is : goal.returns-else-one-end-clause-is
returns-else-one-end-clause-is c =
    ne_eqb _ _ c.if-one-end.false ∙ sym (other_end c.args.one.now c.args.other.now c.if-one-other.false c.if-one-le-LAST.false c.if-one-end.false)
