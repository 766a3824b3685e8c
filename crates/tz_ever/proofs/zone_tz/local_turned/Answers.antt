use Rattle.std.proofs.Common.{ap, sym, ◌∙◌}
use Rattle.tz_ever.{specs.Recurrences.{is_kept}, proofs.TurnLemmas.{kept_is, other_is}}
use Rattle.tz_ever.proofs.zone_tz.local_turned.Goals as goal

pub returns-then-is_kept : goal.returns-then-is_kept
returns-then-is_kept c =
    sym (kept_is c.args.recurrence c.args.local.now
    (ap (is_kept c.args.recurrence) (sym c.date.ensures.value) ∙ sym c.is_kept.ensures ∙ c.if-is_kept.true))

pub returns-else-is_kept : goal.returns-else-is_kept
returns-else-is_kept c =
    c.in_cycle.ensures ∙ sym (other_is c.args.recurrence c.args.local.now
    (ap (is_kept c.args.recurrence) (sym c.date.ensures.value) ∙ sym c.is_kept.ensures ∙ c.if-is_kept.false))
