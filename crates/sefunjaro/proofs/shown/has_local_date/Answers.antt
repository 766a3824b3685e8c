use Rattle.std.proofs.Common.{◌∙◌, ap}
use Rattle.civil_base.specs.Ranges.{is_in_years}
use Rattle.sefunjaro.proofs.ShownLemmas.{local_is}
use Rattle.sefunjaro.proofs.shown.has_local_date.Goals as goal

pub returns : goal.returns
returns c = c.is_in_years.ensures ∙ ap is_in_years (local_is c.args.second c.args.offset c.from.result c.requires c.ranges.offset c.from.ensures)
