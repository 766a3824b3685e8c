use Rattle.std.proofs.{Common.{◌∙◌, suc, ℤ, pos, drop, get_or, SFits, w32, w64, rules, refl, sym, ap, arith}, lemmas.Int.{to_z-of_z}}
use Rattle.basics.specs.SignedLaws.{signed}
use Rattle.civil_base.specs.Instants.{nanos_of}
use Rattle.sefunjaro.{specs.Rooms.{filled, filled_at}, proofs.AskLemmas.{drop_here, one_more}}
use Rattle.sefunjaro.specs.Zones.{kept_total}
use Rattle.sefunjaro.proofs.offsets.offsets_at.Goals as goal

pub loop-i-init : goal.loop-i-init
unfolding filled
loop-i-init c = record { known = λ u low high. absurd (omega (arith, signed, low, high)); room = refl }

pub loop-i-preserved : goal.loop-i-preserved
loop-i-preserved c =
    let seconds = c.args.seconds.now in
    let i = c.loop-i.i in
    let second = get_or seconds i (pos 0) in
    let total : ℤ → ℤ = λ s. kept_total c.args.zone.now (nanos_of s) in
    let offset_fits : SFits w32 c.next-known.result.offset = search rules in
    let second_fits : SFits w64 c.second_at.result = search rules in
    let told = to_z-of_z w32 _ offset_fits ∙ sym c.next-known.ensures.here ∙ ap total (to_z-of_z w64 _ second_fits ∙ c.second_at.ensures) in
    record {
      known = c.next-known.ensures.known;
      room =
          c.put.ensures ∙ ap (λ o. filled_at i o c.loop-i.room) told ∙ ap (filled_at i (total second)) c.loop-i.invariant.room
          ∙ one_more total seconds i second (drop (suc i) seconds) c.args.room.now (drop_here seconds i (pos 0) c.loop-i-test.true);
    }
