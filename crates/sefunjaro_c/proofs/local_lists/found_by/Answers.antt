use Rattle.std.proofs.Common.{inl, inr, refl}
use Rattle.sefunjaro_c.proofs.local_lists.found_by.Goals as goal

pub returns-in-Ok-clause-answer : goal.returns-in-Ok-clause-answer
returns-in-Ok-clause-answer c = inl (refl, (refl, c.in-Ok.ensures))

pub returns-in-Err-clause-answer : goal.returns-in-Err-clause-answer
returns-in-Err-clause-answer c = inr (refl, c.in-Err.ensures)
