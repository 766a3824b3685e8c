use Rattle.zone_tzif_core.proofs.{ExactLemmas.{one_reading}, WrittenLemmas.{written_denotes}}
use Rattle.zone_tzif_core.proofs.laws.one_value.Goals as goal

pub returns : goal.returns
returns c = λ bytes x y a b. one_reading bytes x y (written_denotes bytes x a) (written_denotes bytes y b)
