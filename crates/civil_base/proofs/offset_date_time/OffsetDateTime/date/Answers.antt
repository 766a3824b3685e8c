use Rattle.std.proofs.Common.{rules}
use Rattle.civil_base.specs.DateTimes.{local_of}
use Rattle.civil_base.proofs.offset_date_time.OffsetDateTime.date.Goals as goal

pub returns : goal.returns
unfolding local_of
returns c = search rules
