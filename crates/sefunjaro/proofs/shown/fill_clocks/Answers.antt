use Rattle.std.proofs.Common.{◌∙◌, suc, pos, drop, get_or, to_z, of_z, w32, rules, refl, sym, ap, subst, arith}
use Rattle.basics.specs.SignedLaws.{signed}
use Rattle.civil_base.specs.{Instants.{local_at, nanos_of}, Ranges.{IsInYears}}
use Rattle.sefunjaro.{specs.Rooms.{filled, filled_at}, specs.Shown.{clock_shown_at}, proofs.AskLemmas.{drop_here, one_more, read_at}, proofs.ShownLemmas.{clock_is, shown_here}}
use Rattle.sefunjaro.specs.Zones.{kept_total}
use Rattle.sefunjaro.proofs.shown.fill_clocks.Goals as goal

pub loop-i-init : goal.loop-i-init
unfolding filled
loop-i-init c = record { known = λ u low high. absurd (omega (arith, signed, low, high)); room = refl }

pub local_at-requires-clause-second : goal.local_at-requires-clause-second
local_at-requires-clause-second c =
    let second = get_or c.args.seconds.now c.loop-i.i (pos 0) in
    let total = kept_total c.args.zone.now in
    let read = read_at total second c.second_at-second.result c.next-known.result.offset (search rules) (search rules) c.second_at-second.ensures c.next-known.ensures.here in
    subst (λ s. IsInYears (nanos_of s)) (sym read.0) (shown_here total c.args.seconds.now c.loop-i.i second c.requires c.loop-i-test.true refl).0

pub local_at-requires-clause-local : goal.local_at-requires-clause-local
local_at-requires-clause-local c =
    let second = get_or c.args.seconds.now c.loop-i.i (pos 0) in
    let total = kept_total c.args.zone.now in
    let read = read_at total second c.second_at-second.result c.next-known.result.offset (search rules) (search rules) c.second_at-second.ensures c.next-known.ensures.here in
    subst (λ s. IsInYears (local_at (nanos_of s) (to_z w32 (of_z w32 c.next-known.result.offset)))) (sym read.0)
    (subst (λ o. IsInYears (local_at (nanos_of second) o)) (sym read.1) (shown_here total c.args.seconds.now c.loop-i.i second c.requires c.loop-i-test.true refl).1)

pub loop-i-preserved : goal.loop-i-preserved
loop-i-preserved c =
    let second = get_or c.args.seconds.now c.loop-i.i (pos 0) in
    let total = kept_total c.args.zone.now in
    let read = read_at total second c.second_at-second.result c.next-known.result.offset (search rules) (search rules) c.second_at-second.ensures c.next-known.ensures.here in
    let clock = c.clock_of.ensures ∙ clock_is total second c.local_at.result (c.local_at.ensures ∙ (λ j. local_at (nanos_of (read.0 j)) (read.1 j))) in
    record {
      known = c.next-known.ensures.known;
      room =
          c.put.ensures ∙ ap (λ k. filled_at c.loop-i.i k c.loop-i.room) clock ∙ ap (filled_at c.loop-i.i (clock_shown_at total second)) c.loop-i.invariant.room
          ∙ one_more (clock_shown_at total) c.args.seconds.now c.loop-i.i second (drop (suc c.loop-i.i) c.args.seconds.now) c.args.room.now (drop_here c.args.seconds.now c.loop-i.i (pos 0) c.loop-i-test.true);
    }
