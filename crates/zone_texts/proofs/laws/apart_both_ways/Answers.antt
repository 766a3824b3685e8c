use Rattle.zone_texts.proofs.EditLemmas.{either_way, not_itself}
use Rattle.zone_texts.proofs.laws.apart_both_ways.Goals as goal

pub returns : goal.returns
returns c = record { both = either_way; itself = not_itself }
