use Rattle.civil_base.proofs.TableLemmas.{pair-digits}
use Rattle.civil_base.proofs.read.pair.Goals as goal

pub returns-clause-tens : goal.returns-clause-tens
returns-clause-tens c = (pair-digits c.args.number c.requires).0

pub returns-clause-ones : goal.returns-clause-ones
returns-clause-ones c = (pair-digits c.args.number c.requires).1
