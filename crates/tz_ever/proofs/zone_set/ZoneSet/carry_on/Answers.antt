use Rattle.std.specs.FinMap.{get}
use Rattle.tz_ever.proofs.zone_set.ZoneSet.carry_on.Goals as goal

pub build-requires : goal.build-requires
build-requires c = λ _.
    let found = c.in_ok-set.ensures.ok in
    c.repeats_at_the_seam.ensures (get c.args.table.now.rulesets) found.infos c.in_ok-set.set found.zone
