use Rattle.std.proofs.{Common.{◌<◌, length, to_z, of_z, to_z-of_z, w64, arith}, lemmas.List.{length-map}}
use Rattle.tz_lookup.specs.Sets.{shift_of}
use Rattle.sefunjaro.proofs.ChangeLemmas.{met_more, met_none, met_window}
use Rattle.sefunjaro.proofs.changes.changes.Goals as goal

pub loop-place-init : goal.loop-place-init
loop-place-init g c =
    let set = g.S.SpanTable.seen c.args.set.now in let first = c.entries_before-first in record {
      begun = omega arith;
      met = met_none set (to_z w64 (of_z w64 c.args.from)) (to_z w64 (of_z w64 c.args.to)) set.others first.result c.args.room.now first.ensures;
    }

pub loop-place-preserved : goal.loop-place-preserved
loop-place-preserved g c =
    let set = g.S.SpanTable.seen c.args.set.now in let begun = c.entries_before-first.ensures in let ended = c.entries_before.ensures in
    let place = c.loop-place.place in let invariant = c.loop-place.invariant in let size = length-map set.others shift_of in
    let lasts : place < c.entries_before.result = omega (arith, c.loop-place-test.true, invariant.begun, c.max-end.ensures) in
    let within : place < length set.others = omega (arith, lasts, ended.within, size) in record {
      begun = omega (arith, invariant.begun);
      met = met_more set (to_z w64 (of_z w64 c.args.from)) (to_z w64 (of_z w64 c.args.to)) set.others c.args.room.now c.loop-place.room _ place
          c.loop-place.count c.put_change-count.result invariant.met within (begun.after place invariant.begun (omega (arith, within, size)))
          (ended.before place lasts) c.put_change-count.ensures;
    }

pub returns-clause-room : goal.returns-clause-room
returns-clause-room g c =
    (met_window (g.S.SpanTable.seen c.args.set.now) _ _ _ _ _ _ _ _ (to_z-of_z c.ranges.from) (to_z-of_z c.ranges.to) c.loop-place.invariant.met
    (λ j l m. c.entries_before.ensures.after j (omega (arith, c.loop-place-test.false, c.max-end.ensures, l))
    (omega (arith, m, length-map (g.S.SpanTable.seen c.args.set.now).others shift_of)))).0

pub returns-clause-count : goal.returns-clause-count
returns-clause-count g c =
    (met_window (g.S.SpanTable.seen c.args.set.now) _ _ _ _ _ _ _ _ (to_z-of_z c.ranges.from) (to_z-of_z c.ranges.to) c.loop-place.invariant.met
    (λ j l m. c.entries_before.ensures.after j (omega (arith, c.loop-place-test.false, c.max-end.ensures, l))
    (omega (arith, m, length-map (g.S.SpanTable.seen c.args.set.now).others shift_of)))).1
