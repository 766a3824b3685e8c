use Rattle.tz_ever.specs.ZoneShown.{recurrence_of, zone_set_of}
use Rattle.tz_ever.proofs.table.ZoneTable.new.Goals as goal

pub returns-clause-accepted : goal.returns-clause-accepted
returns-clause-accepted c =
    let set = c.args.set.now in
    c.told_is_accepted.ensures (recurrence_of set) (zone_set_of set) set.accepted
