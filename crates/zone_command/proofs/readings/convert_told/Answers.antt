use Rattle.zone_command.specs.Streams.{readings_due}
use Rattle.zone_command.proofs.readings.convert_told.Goals as goal

pub returns : goal.returns
returns g c =
    c.told_between.ensures
    (readings_due c.args.style.now.form (g.F.ReplyZone.view c.args.from.now) c.args.from_name.now (g.T.ReplyZone.view c.args.to.now)
    c.args.style.now.name.now c.args.local.now) c.readings_text-text.ensures
