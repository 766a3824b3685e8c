use Rattle.std.proofs.Common.{sym, subst}
use Rattle.tz_lookup.specs.Sets.{schedule_of}
use Rattle.zone_tail.{specs.Agreement.{Agrees}, specs.Candidates.{IsAllowed}, specs.LastYear.{form}, specs.Tails.{end_of_last_year, names_of}, proofs.CarryLemmas.{carries_on}}
use Rattle.zone_tail.proofs.call.tail_of.Goals as goal

pub returns-clause-read : goal.returns-clause-read
returns-clause-read g c =
    let set = g.S.SpanTable.seen c.args.set.now in
    let is = c.requires.chosen in
    let text = rw (c.names.ensures.standard, c.names.ensures.saving) at c.in_ok-text.ensures in
    carries_on set (names_of (form set)).0 (names_of (form set)).1 c.args.candidate.now c.args.span c.beginning.result _ is.named is.written is.sound is.closes is.settles
    (subst (λ v. IsAllowed v (schedule_of set) c.args.span) (sym is.is) is.choice.allowed)
    (subst (λ v. Agrees v (schedule_of set) (end_of_last_year set) c.args.span) (sym is.is) is.choice.agrees) c.beginning.ensures text
