use Rattle.std.proofs.lemmas.Result.{IfOk-weaker}
use Rattle.zone_outside.proofs.Loops.{keeps_on, of_fetched}
use Rattle.zone_outside.proofs.outside.fetch_all.Goals as goal

pub returns-clause-names : goal.returns-clause-names
returns-clause-names g c = keeps_on c.in_ok-fetch.ensures.names c.read_all.ensures.names

pub returns-clause-bytes : goal.returns-clause-bytes
returns-clause-bytes g c = IfOk-weaker c.read_all.result _ _ (λ bytes. of_fetched _ _ _ c.in_ok-fetch.ensures.bytes) c.read_all.ensures.bytes

pub returns-clause-long : goal.returns-clause-long
returns-clause-long g c = rw (← c.in_ok-fetch.ensures.given) c.read_all.ensures.long

pub returns-clause-long_text : goal.returns-clause-long_text
returns-clause-long_text g c = λ long. of_fetched _ _ _ c.in_ok-fetch.ensures.bytes (c.read_all.ensures.long_text long)

pub returns-clause-ok_given : goal.returns-clause-ok_given
returns-clause-ok_given g c = rw (← c.in_ok-fetch.ensures.given) c.read_all.ensures.ok_given

pub returns-clause-failed_given : goal.returns-clause-failed_given
returns-clause-failed_given g c = rw (← c.in_ok-fetch.ensures.given) c.read_all.ensures.failed_given
