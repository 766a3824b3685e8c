use Rattle.std.proofs.{Common.{FitsSigned, w32, w64, to_z-of_z, rules, ap, ◌∙◌, arith}, lemmas.Int.{ints}}
use Rattle.civil_base.specs.Instants.{seconds_of}
use Rattle.sefunjaro.proofs.{FoundLemmas.{at_utc}, GapLemmas.{skipped_at}}
use Rattle.sefunjaro.specs.Zones.{kept_total}
use Rattle.sefunjaro.proofs.gap.near_gap.Goals as goal

pub returns-then-is_skipped : goal.returns-then-is_skipped
returns-then-is_skipped c =
    let total = kept_total c.args.zone.now in
    let x = c.args.local.now in
    let before = c.stretch_at-before in
    let after = c.stretch_at-after in
    let shown : FitsSigned w64 c.unix_timestamp-shown.result = search rules in
    let until : FitsSigned w64 before.result.until = search rules in
    let offset : FitsSigned w32 before.result.offset = search rules in
    let next : FitsSigned w32 after.result.offset = search rules in
    let utc = c.assume_utc in
    let is = c.unix_timestamp-shown.ensures.value ∙ ap seconds_of (at_utc utc.result x utc.ensures.local utc.ensures.offset) in
    let passed = c.is_skipped.ensures (search rules) in
    rw (to_z-of_z until, to_z-of_z offset, to_z-of_z next)
    (skipped_at total x c.unix_timestamp-shown.result _ before.result.from before.result.until before.result.offset after.result.offset
    c.requires is before.ensures.begun (omega (arith, ints, c.if-before-second.false, to_z-of_z until)) before.ensures.throughout (rw (to_z-of_z until) at after.ensures.here)
    (omega (arith, ints, passed.0, to_z-of_z shown)) (omega (arith, ints, passed.1, to_z-of_z shown)))
