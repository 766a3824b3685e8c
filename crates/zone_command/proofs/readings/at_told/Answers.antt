use Rattle.civil_base.specs.DateTimes.{instant}
use Rattle.zone_texts.specs.Instants.{at_due}
use Rattle.zone_command.proofs.readings.at_told.Goals as goal

pub returns : goal.returns
returns g c =
    c.told.ensures (at_due c.args.style.now.form (g.Z.ReplyZone.view c.args.zone.now) c.args.style.now.name.now (instant c.args.at.now))
    c.at_text.ensures
