use Rattle.tz_tzif.proofs.FooterReadLemmas.{one_value}
use Rattle.tz_tzif.proofs.laws.one_footer.Goals as goal

pub returns : goal.returns
returns c = one_value
