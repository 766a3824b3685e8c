use Rattle.civil_base.proofs.LocalTimeLemmas.{local_time-read}
use Rattle.civil_base.proofs.read.read_local.Goals as goal

pub returns-clause-value : goal.returns-clause-value
returns-clause-value c =
    local_time-read c.args.text.now c.value_with.result c.value_with.ensures.exact c.value_with.ensures.years c.value_with.ensures.only
