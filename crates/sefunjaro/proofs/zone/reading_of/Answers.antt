use Rattle.std.proofs.Common.{to_z-of_z, FitsSigned, w32, w64, refl, rules}
use Rattle.tz_lookup.specs.InForce.{shown_of}
use Rattle.sefunjaro.proofs.zone.reading_of.Goals as goal

pub returns : goal.returns
unfolding shown_of
returns c =
    let second : FitsSigned w64 c.unix_timestamp.result = search rules in
    let offset : FitsSigned w32 c.whole_seconds.result = search rules in
    rw (to_z-of_z second, to_z-of_z offset, c.unix_timestamp.ensures.value, c.whole_seconds.ensures.value, c.offset.ensures) refl
