use Rattle.std.proofs.Common.{arith, to_z-of_z}
use Rattle.basics.specs.SignedLaws.{signed}
use Rattle.civil_base.proofs.DateTimeLemmas.{instant-parts}
use Rattle.civil_base.proofs.offset_date_time.OffsetDateTime.from_unix_timestamp_nanos.Goals as goal

pub returns-clause-instant : goal.returns-clause-instant
returns-clause-instant c =
    let value = c.assume_utc.result in
    let local = rw c.in_ok-local.ensures.ok_part at c.at_nanos.ensures.value in
    let stamp = to_z-of_z c.ranges.timestamp in
    omega (arith, signed, instant-parts value, c.assume_utc.ensures.local, c.assume_utc.ensures.offset, local, stamp)
