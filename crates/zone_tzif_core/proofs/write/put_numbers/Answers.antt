use Rattle.std.{proofs.Common.{◌≡◌, ◌∙◌, ◌++◌, ◌∷◌, [], ap, subst, true, ℤ}, specs.List.{list_any}}
use Rattle.zone_tzif_core.{specs.Shown.{shift_shown, kinds_seen}, specs.Tzif.{is_same, kind_number}, specs.Zones.{KindValue}, proofs.PutLemmas.{put_kept, put_end, seen_at, seen_long}}
use Rattle.zone_tzif_core.proofs.write.put_numbers.Goals as goal

pub kind_number-requires-clause-among : goal.kind_number-requires-clause-among
kind_number-requires-clause-among c =
    let x = c.shift-item.result in
    subst (λ (shift : ℤ × KindValue). list_any (is_same shift.1) (kinds_seen c.args.kinds.now) ≡ true)
    (seen_at shift_shown c.args.shifts.now c.loop-shift.shift-index x c.loop-shift-test.true c.shift-item.is)
    (c.requires.among c.loop-shift.shift-index (shift_shown x) (seen_long shift_shown c.args.shifts.now c.loop-shift.shift-index c.loop-shift-test.true))

pub loop-shift-preserved : goal.loop-shift-preserved
loop-shift-preserved c =
    put_kept shift_shown (λ (shift : ℤ × KindValue). kind_number (kinds_seen c.args.kinds.now) shift.1 ∷ []) c.args.into.now.items c.args.shifts.now c.loop-shift.shift-index
    c.loop-shift.into.items c.push.new.self.items c.shift-item.result c.loop-shift-test.true c.shift-item.is
    (c.in_ok-push.ensures.items ∙ ap (λ n. c.loop-shift.into.items ++ n ∷ []) c.kind_number.ensures) c.loop-shift.invariant

pub returns : goal.returns
returns c =
    put_end shift_shown (λ (shift : ℤ × KindValue). kind_number (kinds_seen c.args.kinds.now) shift.1 ∷ []) c.args.into.now.items c.args.shifts.now c.loop-shift.shift-index
    c.loop-shift.into.items c.loop-shift-test.false c.loop-shift.invariant
