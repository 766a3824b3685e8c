use Rattle.std.proofs.Common.{◌≡◌, ap, ◌∙◌, arith, find, pos, ◌-ℤ◌, ◌+ℤ◌, to_z, of_z, w64}
use Rattle.basics.specs.SignedLaws.{signed_casts}
use Rattle.civil_base.specs.Instants.{seconds_of}
use Rattle.zone_texts.{specs.Skips.{skipping, skips}, proofs.LocalLemmas.{at_utc}}
use Rattle.zone_texts.proofs.skip.skipping.Goals as goal

pub returns : goal.returns
unfolding skipping
returns g c =
    let view = g.Z.ReplyZone.view c.args.zone.now in
    let x = c.args.local.now in
    let s = c.unix_timestamp-second.result in
    let is : s ≡ seconds_of x =
    c.unix_timestamp-second.ensures.value
    ∙ ap seconds_of (at_utc c.assume_utc.result x c.assume_utc.ensures.local c.assume_utc.ensures.offset) in
    let from : to_z w64 (of_z w64 (to_z w64 (of_z w64 s) -ℤ pos 93600)) ≡ seconds_of x -ℤ pos 93600 =
    omega (arith, signed_casts, is, c.unix_timestamp-second.ensures.bound) in
    let to : to_z w64 (of_z w64 (to_z w64 (of_z w64 s) +ℤ pos 93601)) ≡ seconds_of x +ℤ pos 93601 =
    omega (arith, signed_casts, is, c.unix_timestamp-second.ensures.bound) in
    c.first_skipping.ensures ∙ ap (find (skips view x)) (c.deref.ensures.value ∙ c.in_ok-changes.ensures ∙ (λ i. view.changes (from i) (to i)))
