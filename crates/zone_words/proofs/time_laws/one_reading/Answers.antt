use Rattle.zone_words.proofs.{ExactLemmas.{one_local, one_asked}, StampLemmas.{one_stamp}}
use Rattle.zone_words.proofs.time_laws.one_reading.Goals as goal

pub returns : goal.returns
returns c = record { local = one_local; instant = one_asked; stamp = one_stamp }
