use Rattle.std.proofs.Common.{subst}
use Rattle.zone_tzif_core.specs.Tzif.{IsTzifBy}
use Rattle.zone_tzif.proofs.file.written.Goals as goal

pub returns-in-Ok : goal.returns-in-Ok
returns-in-Ok g c = subst (IsTzifBy c.args.version c.in-Ok.file.items) c.in_ok-zone.ensures.value c.in-Ok.ensures.file
