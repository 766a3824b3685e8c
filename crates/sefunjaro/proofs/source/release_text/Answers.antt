use Rattle.sefunjaro.proofs.ReleaseLemmas.{is_some}
use Rattle.sefunjaro.proofs.source.release_text.Goals as goal

pub returns-in-Some-clause-back : goal.returns-in-Some-clause-back
returns-in-Some-clause-back c = is_some c.args.text.now _ c.in-Some.ensures
