use Rattle.std.proofs.Common.{ap, map}
use Rattle.zone_plain.proofs.NameLemmas.{no_names}
use Rattle.zone_plain.proofs.links.Declared.new.Goals as goal

pub returns : goal.returns
returns c = no_names _ (ap (map (λ one. one.now)) c.new.ensures.items) c.new-2.ensures c.new-3.ensures c.new-4.ensures
