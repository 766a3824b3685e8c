use Rattle.std.proofs.Common.{sym}
use Rattle.zone_uses.specs.Causes.{no_zone, no_year}
use Rattle.zone_uses.proofs.posix.posix_offset.Goals as goal

pub returns-in-Err-get_offset-clause-none : goal.returns-in-Err-get_offset-clause-none
returns-in-Err-get_offset-clause-none c = λ _. no_year c.in-Ok.zone c.in-Ok.ensures c.in-Err-get_offset.field-0 (sym c.in-Err-get_offset.ensures.refused)

pub returns-in-Err-clause-none : goal.returns-in-Err-clause-none
returns-in-Err-clause-none c = λ _. no_zone c.in-Err.field-0 c.in-Err.ensures
