use Rattle.std.proofs.Common.{refl}
use Rattle.civil_base.specs.DateTimes.{local_of}
use Rattle.civil_base.proofs.offset_date_time.OffsetDateTime.local.Goals as goal

pub returns : goal.returns
unfolding local_of
returns c = refl
