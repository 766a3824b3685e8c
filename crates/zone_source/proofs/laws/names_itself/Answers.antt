use Rattle.zone_source.specs.ReleaseLaws.{release_line}
use Rattle.zone_source.proofs.laws.names_itself.Goals as goal

pub returns : goal.returns
returns c = release_line
