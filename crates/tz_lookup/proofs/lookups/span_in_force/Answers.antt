use Rattle.std.proofs.{Common.{w64, SFits, rules, sym, ◌∙◌, subst}, lemmas.Int.{to_z-of_z}}
use Rattle.civil_base.specs.DateTimes.{instant}
use Rattle.tz_lookup.specs.{Sets.{shifts_of}, Spans.{IsCut}}
use Rattle.tz_lookup.proofs.lookups.span_in_force.Goals as goal

pub returns-clause-in_force : goal.returns-clause-in_force
returns-clause-in_force g c =
    let fs : SFits w64 c.unix_timestamp.result = search rules in
    subst (λ s. IsCut (shifts_of (g.T.SpanTable.seen c.args.set.now)) c.span_in_force_at.result s)
    (to_z-of_z w64 _ fs ∙ c.unix_timestamp.ensures.value) c.span_in_force_at.ensures.cut

pub returns-clause-total : goal.returns-clause-total
returns-clause-total g c =
    let fs : SFits w64 c.unix_timestamp.result = search rules in
    c.span_in_force_at.ensures.total (instant c.args.date_time.now) (sym (to_z-of_z w64 _ fs ∙ c.unix_timestamp.ensures.value))
