use Rattle.zone_table.specs.Moments.{last_year}
use Rattle.zone_spans.proofs.goes_on.last_year.Goals as goal

pub returns : goal.returns
unfolding last_year
returns c = c.unwrap_or.ensures
