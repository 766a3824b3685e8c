use Rattle.zone_plain.proofs.StageLemmas.{first_at}
use Rattle.zone_plain.proofs.links.nothing_seen.Goals as goal

pub returns : goal.returns
returns c d values limit declared few = first_at d _ values limit c.new.ensures c.new-2.ensures c.new-3.ensures declared few
