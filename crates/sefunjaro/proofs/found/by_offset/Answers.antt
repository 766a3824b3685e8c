use Rattle.std.proofs.Common.{to_z-of_z}
use Rattle.sefunjaro.proofs.FoundLemmas.{by_offset_is}
use Rattle.sefunjaro.proofs.found.by_offset.Goals as goal

pub returns : goal.returns
returns c =
    let second = by_offset_is c.assume_utc.result c.args.local.now c.unix_timestamp.result c.args.offset c.from.result c.assume_utc.ensures.local c.assume_utc.ensures.offset
    c.unix_timestamp.ensures.value c.unix_timestamp.ensures.bound c.ranges.offset c.from.ensures in
    λ i. record { second = second i; offset = to_z-of_z c.ranges.offset i; kind = 0 }
