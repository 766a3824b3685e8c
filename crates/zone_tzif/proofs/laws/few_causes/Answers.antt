use Rattle.zone_tzif.proofs.FileLemmas.{never, never_consistent}
use Rattle.zone_tzif.proofs.laws.few_causes.Goals as goal

pub returns-clause-string : goal.returns-clause-string
returns-clause-string c = λ set accepted. never set accepted (c.one_line.ensures set)

pub returns-clause-consistent : goal.returns-clause-consistent
returns-clause-consistent c = λ set accepted. never_consistent set accepted (c.one_line.ensures set)
