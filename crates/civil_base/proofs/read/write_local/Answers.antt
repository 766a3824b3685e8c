use Rattle.civil_base.specs.TextLaws.{local_text-same}
use Rattle.civil_base.proofs.read.write_local.Goals as goal

pub returns-clause-only : goal.returns-clause-only
returns-clause-only c = λ x years text.
    local_text-same x c.args.value.now years c.put_local.ensures.years text
