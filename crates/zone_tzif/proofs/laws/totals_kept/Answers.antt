use Rattle.zone_tzif.{specs.declared.convert.Saves.TheVariants.{Above}, proofs.TotalLemmas.{totals_kept}}
use Rattle.zone_tzif.proofs.laws.totals_kept.Goals as goal

pub returns : goal.returns
returns c = totals_kept Above
