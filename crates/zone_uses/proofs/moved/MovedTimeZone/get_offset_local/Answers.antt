use Rattle.std.proofs.Common.{map, sym, subst, ◌∙◌}
use Rattle.civil_base.specs.{DateTimes.{instant, local_of}, Instants.{instant_at}}
use Rattle.tz_lookup.specs.InForce.{AreInstants}
use Rattle.zone_uses.specs.{MoveLaws.{are_around, totals_around}, Moves.{total_around}}
use Rattle.zone_uses.proofs.moved.MovedTimeZone.get_offset_local.Goals as goal

pub returns-clause-totals : goal.returns-clause-totals
returns-clause-totals c =
    let z = c.args.self.now in
    c.on_sides.ensures.totals
    ∙ totals_around (instant z.change) z.before z.after (local_of c.args.date_time.now) c.is_before.result c.is_before-2.result z.in_range
    c.is_before.ensures c.is_before-2.ensures

pub returns-clause-exact : goal.returns-clause-exact
returns-clause-exact c _ =
    let z = c.args.self.now in
    let x = local_of c.args.date_time.now in
    let total = total_around (instant z.change) z.before z.after in
    subst (λ os. AreInstants total x (map (instant_at x) os)) (sym c.on_sides.ensures.totals)
    (are_around (instant z.change) z.before z.after x c.is_before.result c.is_before-2.result c.is_before.ensures c.is_before-2.ensures)
