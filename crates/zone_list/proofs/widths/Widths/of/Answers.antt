use Rattle.zone_list.{specs.Rows.{name_of, time_of, widest}, specs.Windows.{window}, proofs.StepLemmas.{left, most_of_none, widened, as_wide}, proofs.widths.Widths.of.Goals.{then-is_within, else-is_within}}
use Rattle.zone_list.proofs.widths.Widths.of.Goals as goal
use Rattle.std.{proofs.Common.{◌∙◌, ◌+◌, ◌<◌, ap, arith, length, map, sym}, specs.Prelude.{max}}

pub loop-place-init : goal.loop-place-init
unfolding window
loop-place-init g c = record { of_times = most_of_none _; of_names = most_of_none _ }

pub loop-place-preserved : goal.loop-place-preserved
loop-place-preserved g c =
    let set = g.S.SpanTable.seen c.args.set.now in
    let asked = c.args.asked.now in
    let place = c.loop-place.place in
    let inside : place < length set.others = omega (arith, c.loop-place-test.true, c.entry_count-place-end.ensures.count) in
    elim c.if-is_within.branch [
      | then-is_within w ↦ record {
        of_times = widened time_of asked.from asked.to set place _ _ _ inside (sym c.is_within.ensures ∙ w.if-is_within.true) (ap (λ s. s.times) w.widths-is ∙ w.with-widths.ensures.times) c.loop-place.invariant.of_times;
        of_names = widened name_of asked.from asked.to set place _ _ _ inside (sym c.is_within.ensures ∙ w.if-is_within.true) (ap (λ s. s.names) w.widths-is ∙ w.with-widths.ensures.names) c.loop-place.invariant.of_names;
      }
      | else-is_within w ↦ record {
        of_times = ap (λ s. max s.times (widest (map time_of (left asked.from asked.to set (place + 1))))) w.widths-is ∙ as_wide time_of asked.from asked.to set place _ _ inside (sym c.is_within.ensures ∙ w.if-is_within.false) c.loop-place.invariant.of_times;
        of_names = ap (λ s. max s.names (widest (map name_of (left asked.from asked.to set (place + 1))))) w.widths-is ∙ as_wide name_of asked.from asked.to set place _ _ inside (sym c.is_within.ensures ∙ w.if-is_within.false) c.loop-place.invariant.of_names;
      }
    ]
