use Rattle.std.proofs.Common.{to_z-of_z, FitsSigned, w32, refl, rules}
use Rattle.civil_base.specs.DateTimes.{instant}
use Rattle.sefunjaro.proofs.gap.date_at.Goals as goal

pub returns : goal.returns
unfolding instant
returns c =
    let fits : FitsSigned w32 c.offset_of.result = search rules in
    rw (c.assume_offset.ensures.local, c.assume_offset.ensures.offset, c.in-Ok.ensures.value, to_z-of_z fits, c.offset_of.ensures) refl
