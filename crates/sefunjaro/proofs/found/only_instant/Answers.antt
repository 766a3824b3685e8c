use Rattle.std.proofs.Common.{FitsSigned, w32, w64, rules, to_z-of_z, arith}
use Rattle.basics.specs.SignedLaws.{signed_casts}
use Rattle.sefunjaro.proofs.{FoundLemmas.{by_offset_is}, OnlyLemmas.{found_only}}
use Rattle.sefunjaro.proofs.found.only_instant.Goals as goal

pub returns-then-second-known : goal.returns-then-second-known
returns-then-second-known c total fold gap steady known =
    let offset : FitsSigned w32 c.args.known.now.offset = search rules in
    let from : FitsSigned w64 c.args.known.now.from = search rules in
    let until : FitsSigned w64 c.args.known.now.until = search rules in
    let second = by_offset_is c.assume_utc.result c.args.local.now c.unix_timestamp.result c.args.known.now.offset c.from.result c.assume_utc.ensures.local c.assume_utc.ensures.offset
    c.unix_timestamp.ensures.value c.unix_timestamp.ensures.bound offset c.from.ensures in
    rw (to_z-of_z offset) (found_only total c.args.local.now _ c.args.known.now.from c.args.known.now.until c.args.known.now.offset fold gap steady known second
    (omega (arith, signed_casts, c.unix_timestamp.ensures.bound, offset, from, c.from.ensures, c.if-known-second.true))
    (omega (arith, signed_casts, c.unix_timestamp.ensures.bound, offset, until, c.from.ensures, c.if-second-known.true)))
