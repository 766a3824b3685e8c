use Rattle.sefunjaro.specs.Sources.{table_in}
use Rattle.zone_command.proofs.any_source.AnySourceZoneSource.file.Goals as goal

pub returns : goal.returns
returns c = c.file_in.ensures (table_in c.args.self.now.source) c.args.name.now c.in_ok-zone.ensures.ok c.in_ok-zone.ensures.ever
