use Rattle.std.proofs.Common.{sym, ap, subst, ◌∙◌}
use Rattle.zone_tail.specs.{Shapes.{IsForm}, Tails.{ends_early, is_ending_early}}
use Rattle.zone_tail.proofs.last_year.is_ending_early.Goals as goal

pub returns-in-Yearly : goal.returns-in-Yearly
unfolding is_ending_early
returns-in-Yearly g c = c.ends_before.ensures ∙ sym (ap ends_early (subst (IsForm (g.S.SpanTable.seen c.args.set.now)) c.in-Yearly.is c.form_of.ensures).0)

pub returns-in-Steady : goal.returns-in-Steady
unfolding is_ending_early
returns-in-Steady g c = sym (ap ends_early (subst (IsForm (g.S.SpanTable.seen c.args.set.now)) c.in-Steady.is c.form_of.ensures).0)

pub returns-in-Other : goal.returns-in-Other
unfolding is_ending_early
returns-in-Other g c = sym (ap ends_early (subst (IsForm (g.S.SpanTable.seen c.args.set.now)) c.in-Other.is c.form_of.ensures))
