use Rattle.zone_words.proofs.BackLemmas.{local_back, rfc3339_back, epoch_back}
use Rattle.zone_words.proofs.time_laws.written_again.Goals as goal

pub returns : goal.returns
returns c = record { local = local_back; rfc3339 = rfc3339_back; epoch = epoch_back }
