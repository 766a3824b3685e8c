use Rattle.std.proofs.{Common.{◌∙◌, ◌∷◌, pos, get_or, length, take, SFits, to_z, of_z, w32, w64, rules, refl, sym, ap, subst, arith, length-append}, lemmas.Int.{to_z-of_z}}
use Rattle.basics.specs.SignedLaws.{signed}
use Rattle.civil_base.specs.{Instants.{local_at, nanos_of}, Layout.{offset_text}, Ranges.{IsInYears, IsOffset}}
use Rattle.sefunjaro.{specs.Rooms.{filled, filled_from}, specs.Shown.{line_of, texts_of}, proofs.AskLemmas.{read_at}, proofs.RoomLemmas.{filled_behind}, proofs.ShownLemmas.{line_is, shown_here, texts_taken}}
use Rattle.tz_ever.specs.ZoneShown.{zone_in_range}
use Rattle.sefunjaro.specs.Zones.{kept_total}
use Rattle.sefunjaro.proofs.shown.fill_texts.Goals as goal

pub loop-i-init : goal.loop-i-init
unfolding filled texts_of
loop-i-init c =
    record { known = λ u low high. absurd (omega (arith, signed, low, high)); east = c.east_of-east.ensures.text ∙ ap (λ o. 32 ∷ offset_text o) (sym c.east_of-east.ensures.offset); whole = refl; bound = omega arith; room = refl }

pub east_for-east-requires-clause-offset : goal.east_for-east-requires-clause-offset
east_for-east-requires-clause-offset c =
    let fits : SFits w32 c.next-known.result.offset = search rules in
    subst IsOffset (c.next-known.ensures.here ∙ sym (to_z-of_z w32 _ fits)) (zone_in_range c.args.zone.now (nanos_of (to_z w64 (of_z w64 c.second_at-second.result))))

pub local_at-requires-clause-second : goal.local_at-requires-clause-second
local_at-requires-clause-second c =
    let second = get_or c.args.seconds.now c.loop-i.i (pos 0) in
    let total = kept_total c.args.zone.now in
    let read = read_at total second c.second_at-second.result c.next-known.result.offset (search rules) (search rules) c.second_at-second.ensures c.next-known.ensures.here in
    subst (λ s. IsInYears (nanos_of s)) (sym read.0) (shown_here total c.args.seconds.now c.loop-i.i second c.requires.shown c.loop-i-test.true refl).0

pub local_at-requires-clause-local : goal.local_at-requires-clause-local
local_at-requires-clause-local c =
    let second = get_or c.args.seconds.now c.loop-i.i (pos 0) in
    let total = kept_total c.args.zone.now in
    let read = read_at total second c.second_at-second.result c.next-known.result.offset (search rules) (search rules) c.second_at-second.ensures c.next-known.ensures.here in
    subst (λ s. IsInYears (local_at (nanos_of s) (to_z w32 (of_z w32 c.next-known.result.offset)))) (sym read.0)
    (subst (λ o. IsInYears (local_at (nanos_of second) o)) (sym read.1) (shown_here total c.args.seconds.now c.loop-i.i second c.requires.shown c.loop-i-test.true refl).1)

pub loop-i-preserved : goal.loop-i-preserved
loop-i-preserved c =
    let second = get_or c.args.seconds.now c.loop-i.i (pos 0) in
    let total = kept_total c.args.zone.now in
    let read = read_at total second c.second_at-second.result c.next-known.result.offset (search rules) (search rules) c.second_at-second.ensures c.next-known.ensures.here in
    let east = c.east_for-east.ensures.offset in
    let line = line_is total second c.local_at.result c.east_for-east.result.offset
    (c.local_at.ensures ∙ ap (λ s. local_at (nanos_of s) (to_z w32 (of_z w32 c.next-known.result.offset))) read.0 ∙ ap (local_at (nanos_of second)) (sym east)) (east ∙ read.1) in
    let so_far = texts_of total (take c.loop-i.i c.args.seconds.now) in
    let all = texts_taken total c.args.seconds.now c.loop-i.i c.loop-i-test.true in
    record {
      known = c.next-known.ensures.known;
      east = c.east_for-east.ensures.text ∙ ap (λ o. 32 ∷ offset_text o) (sym east);
      whole = omega (arith, c.loop-i.invariant.whole, c.put_line-whole.ensures.length, ap length line, ap length all, length-append so_far (line_of total second));
      bound = omega (arith, c.loop-i.invariant.bound, c.put_line-whole.ensures.bound);
      room =
          c.put_line-whole.ensures.room ∙ ap (λ l. filled_from c.loop-i.whole l c.loop-i.room) line
          ∙ (λ j. filled_from (c.loop-i.invariant.whole j) (line_of total second) (c.loop-i.invariant.room j))
          ∙ filled_behind so_far (line_of total second) c.args.room.now ∙ ap (λ l. filled l c.args.room.now) (sym all);
    }
