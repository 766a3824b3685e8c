use Rattle.std.proofs.Common.{refl}
use Rattle.civil_base.specs.DateTimes.{offset_of}
use Rattle.civil_base.proofs.offset_date_time.OffsetDateTime.offset.Goals as goal

pub returns : goal.returns
unfolding offset_of
returns c = refl
