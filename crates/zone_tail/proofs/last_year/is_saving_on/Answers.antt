use Rattle.std.{proofs.Common.{pos, sym, ap, subst, ◌∙◌}, specs.Prelude.{int_lt}}
use Rattle.zone_spans.specs.declared.span.FixedTimespan.{FixedTimespan}
use Rattle.zone_tail.specs.{Shapes.{IsForm}, Tails.{is_saving_on, saves_on}}
use Rattle.zone_tail.proofs.last_year.is_saving_on.Goals as goal

pub returns-in-Steady : goal.returns-in-Steady
unfolding is_saving_on
returns-in-Steady g c =
    let is = (subst (IsForm (g.S.SpanTable.seen c.args.set.now)) c.in-Steady.is c.form_of.ensures).0 in
    c.is_saved.ensures ∙ ap (λ (span : FixedTimespan). int_lt (pos 0) span.dst_offset) c.span.ensures ∙ sym (ap saves_on is)

pub returns-in-Yearly : goal.returns-in-Yearly
unfolding is_saving_on
returns-in-Yearly g c = sym (ap saves_on (subst (IsForm (g.S.SpanTable.seen c.args.set.now)) c.in-Yearly.is c.form_of.ensures).0)

pub returns-in-Other : goal.returns-in-Other
unfolding is_saving_on
returns-in-Other g c = sym (ap saves_on (subst (IsForm (g.S.SpanTable.seen c.args.set.now)) c.in-Other.is c.form_of.ensures))
