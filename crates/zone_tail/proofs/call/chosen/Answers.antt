use Rattle.std.proofs.Common.{List, slice_index_or, pos, w64, to_z-of_z, FitsSigned, rules, sym, subst}
use Rattle.tz_lookup.specs.Sets.{schedule_of}
use Rattle.zone_tail.{specs.Choices.{IsChoice}, specs.Ready.{IsChosen}, specs.declared.candidate.Candidate.{Candidate}, specs.declared.candidate.Candidate.TheVariants.{Fixed}, proofs.ReadyLemmas.{is_chosen}}
use Rattle.zone_tail.proofs.call.chosen.Goals as goal

pub returns : goal.returns
returns g c =
    let set = g.S.SpanTable.seen c.args.set.now in
    let index = c.choose-choice.result.index in
    let span = c.choose-choice.result.span in
    let fits : FitsSigned w64 c.last_second-last.result = search rules in
    let choice = subst (λ (cs : List Candidate). IsChoice cs (schedule_of set) c.last_second-last.result index span) c.requires.list (rw (to_z-of_z fits) at c.choose-choice.ensures) in
    subst (λ (cs : List Candidate). IsChosen set (slice_index_or cs index (Fixed (pos 0))) span) (sym c.requires.list)
    (is_chosen set c.args.form.now c.requires.form c.requires.none c.last_second-last.result c.last_second-last.ensures index span choice)
