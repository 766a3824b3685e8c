use Rattle.std.proofs.Common.{ap, sym, ◌∙◌}
use Rattle.tz_ever.specs.Recurrences.{is_kept}
use Rattle.tz_ever.proofs.zone_tz.is_kept.Goals as goal

pub returns-in-Never : goal.returns-in-Never
returns-in-Never c = ap (λ r. is_kept r c.args.date) (sym c.in-Never.is)

pub returns-in-Later : goal.returns-in-Later
returns-in-Later c = c.is_early.ensures ∙ ap (λ r. is_kept r c.args.date) (sym c.in-Later.is)

pub returns-in-Always : goal.returns-in-Always
returns-in-Always c = c.is_in_cycle.ensures ∙ ap (λ r. is_kept r c.args.date) (sym c.in-Always.is)
