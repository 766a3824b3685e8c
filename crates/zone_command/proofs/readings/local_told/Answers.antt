use Rattle.zone_command.specs.Streams.{readings_due}
use Rattle.zone_command.proofs.readings.local_told.Goals as goal

pub returns : goal.returns
returns g c =
    c.told.ensures
    (readings_due c.args.style.now.form (g.Z.ReplyZone.view c.args.zone.now) c.args.style.now.name.now (g.Z.ReplyZone.view c.args.zone.now)
    c.args.style.now.name.now c.args.local.now) c.readings_text-text.ensures
