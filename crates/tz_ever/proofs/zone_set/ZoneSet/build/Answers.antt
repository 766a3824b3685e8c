use Rattle.std.proofs.Common.{sym, subst}
use Rattle.tz_lookup.specs.CompactShown.{seen}
use Rattle.tz_ever.{specs.Recurrences.{RepeatsAs, turned}, proofs.AnswerLemmas.{few_instants}}
use Rattle.tz_ever.proofs.zone_set.ZoneSet.build.Goals as goal

pub invariant_of-result-clause-repeats : goal.invariant_of-result-clause-repeats
invariant_of-result-clause-repeats c = subst (RepeatsAs c.args.recurrence) (sym c.in-Ok.ensures.1) c.requires

pub invariant_of-result-clause-two : goal.invariant_of-result-clause-two
invariant_of-result-clause-two c = λ orderly time.
    few_instants c.args.recurrence (seen c.in-Ok.set) time (invariant_of-result-clause-repeats c)
    (c.in-Ok.set.two orderly (turned c.args.recurrence time))
