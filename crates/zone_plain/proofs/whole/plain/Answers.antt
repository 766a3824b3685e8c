use Rattle.std.proofs.lemmas.Result.{IfOk-weaker}
use Rattle.zone_plain.proofs.RebuiltLaws.{rebuilt}
use Rattle.zone_plain.proofs.whole.plain.Goals as goal

pub returns-clause-read : goal.returns-clause-read
returns-clause-read c = IfOk-weaker c.plain_of.result _ _ (λ bytes. rebuilt _ bytes.items) c.plain_of.ensures.ok
