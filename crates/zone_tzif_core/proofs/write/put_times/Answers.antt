use Rattle.std.{proofs.Common.{◌≡◌, ℤ, arith, length, FitsSigned, ◌++◌, ◌∙◌, ap, subst, sym}, proofs.lemmas.Int.{to_z-of_z}, proofs.lemmas.List.{length-map}, specs.Int.{w64}}
use Rattle.zone_tzif_core.{specs.Numbers.{eight_bytes}, specs.Shown.{shift_shown, shifts_shown}, specs.Zones.{KindValue}, proofs.PutLemmas.{put_kept, put_end, each_kept}}
use Rattle.zone_tzif_core.proofs.write.put_times.Goals as goal

pub loop-shift-preserved : goal.loop-shift-preserved
loop-shift-preserved c =
    let x = c.shift-item.result in
    let fits = subst (FitsSigned w64) (sym c.time_of.ensures.time) c.time_of.ensures.range in
    record {
      put = put_kept shift_shown (λ (shift : ℤ × KindValue). eight_bytes shift.0) c.args.into.now.items c.args.shifts.now c.loop-shift.shift-index
          c.loop-shift.into.items c.put_eight.new.into.items x c.loop-shift-test.true c.shift-item.is
          (c.in_ok-put_eight.ensures ∙ ap (λ n. c.loop-shift.into.items ++ eight_bytes n) (to_z-of_z w64 c.time_of.result fits ∙ c.time_of.ensures.time))
          c.loop-shift.invariant.put;
      fit = each_kept (λ (shift : ℤ × KindValue). FitsSigned w64 shift.0) shift_shown c.args.shifts.now c.loop-shift.shift-index x c.loop-shift-test.true
          c.shift-item.is c.time_of.ensures.range c.loop-shift.invariant.fit;
    }

pub returns-clause-bytes : goal.returns-clause-bytes
returns-clause-bytes c =
    put_end shift_shown (λ (shift : ℤ × KindValue). eight_bytes shift.0) c.args.into.now.items c.args.shifts.now c.loop-shift.shift-index c.loop-shift.into.items
    c.loop-shift-test.false c.loop-shift.invariant.put

pub returns-clause-range : goal.returns-clause-range
returns-clause-range c = λ k d within.
    let long : length (shifts_shown c.args.shifts.now) ≡ length c.args.shifts.now = length-map _ _ in
    c.loop-shift.invariant.fit k (omega (arith, long, within, c.loop-shift-test.false)) d
