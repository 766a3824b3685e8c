use Rattle.std.proofs.Common.{ap, sym, ◌∙◌}
use Rattle.civil_base.specs.DateTimes.{local_of}
use Rattle.tz_ever.{specs.Recurrences.{is_kept, turned}, specs.declared.recurrence.Recurrence.TheVariants.{Always}, proofs.TurnLemmas.{kept_is, other_is}}
use Rattle.tz_ever.proofs.zone_tz.turned.Goals as goal

pub returns-then-is_kept-clause-local : goal.returns-then-is_kept-clause-local
returns-then-is_kept-clause-local c =
    sym (kept_is c.args.recurrence (local_of c.args.date_time.now)
    (ap (is_kept c.args.recurrence) (sym c.date.ensures) ∙ sym c.is_kept.ensures ∙ c.if-is_kept.true))

pub returns-else-is_kept-clause-local : goal.returns-else-is_kept-clause-local
returns-else-is_kept-clause-local c =
    c.assume_offset.ensures.local ∙ c.in_cycle.ensures ∙ ap (turned Always) c.local_of.ensures
    ∙ sym (other_is c.args.recurrence (local_of c.args.date_time.now)
    (ap (is_kept c.args.recurrence) (sym c.date.ensures) ∙ sym c.is_kept.ensures ∙ c.if-is_kept.false))
