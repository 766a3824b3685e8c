use Rattle.std.proofs.Common.{sym, subst}
use Rattle.civil_base.specs.Instants.{instant_at}
use Rattle.tz_lookup.specs.{InForce.{IsInForce}, InForceLaws.{gives_at}}
use Rattle.tz_lookup.proofs.tz.TzOffset.of_span.Goals as goal

pub returns-clause-given : goal.returns-clause-given
returns-clause-given g c = λ x in_force.
    let set = g.T.SpanTable.seen c.args.set.now in
    gives_at set c.args.index _ _
    (subst (λ o. IsInForce set c.args.index (instant_at x o)) (sym c.offset_of.ensures) in_force) c.span.ensures
