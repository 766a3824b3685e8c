use Rattle.std.proofs.Common.{refl}
use Rattle.civil_base.specs.DateTimes.{local_of, offset_of, at_offset}
use Rattle.civil_base.proofs.offset_date_time.OffsetDateTime.in_offset.Goals as goal

pub returns-clause-local : goal.returns-clause-local
unfolding local_of
returns-clause-local c = refl

pub returns-clause-offset : goal.returns-clause-offset
unfolding offset_of
returns-clause-offset c = refl

pub returns-clause-value : goal.returns-clause-value
unfolding at_offset
returns-clause-value c = refl
