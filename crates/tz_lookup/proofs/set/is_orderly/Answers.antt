use borrow.Author.Rules.{to_z-of_z_to}
use Rattle.std.proofs.Common.{◌-◌, w64, arith, rules, sym, ◌∙◌}
use Rattle.basics.specs.ComparisonLaws.{le_same}
use Rattle.tz_lookup.{proofs.{SetLemmas.{count_same}, OrderLemmas.{if_false}, OrderlyLemmas.{orderly_more, neighbours_go}}, specs.Sets.{schedule_of}}
use Rattle.tz_lookup.proofs.set.is_orderly.Goals as goal

pub returns-then-not-are_in_order : goal.returns-then-not-are_in_order
returns-then-not-are_in_order c =
    let zone = schedule_of c.args.set.now in
    let a = to_z-of_z_to w64 c.start_of-start.result _ (search rules) c.start_of-start.ensures in
    let b = to_z-of_z_to w64 c.start_of-next_start.result _ (search rules) c.start_of-next_start.ensures in
    let p = to_z-of_z_to w64 c.end_of-last_end.result _ (search rules) c.end_of-last_end.ensures in
    let q = to_z-of_z_to w64 c.end_of-end.result _ (search rules) c.end_of-end.ensures in (
      (λ no. absurd (cc)),
      (λ orderly.
          let go =
          neighbours_go zone.first zone.shifts (c.loop-i.i - 1) c.loop-i.i (omega arith)
          (omega (arith, count_same c.args.set.now, c.entry_count-i-end.ensures)) orderly in
          absurd (if_false c.are_in_order.result c.are_in_order.ensures.1 c.if-not-are_in_order.true
          (le_same _ _ _ _ a b go.0, le_same _ _ _ _ p q go.1, le_same _ _ _ _ p b go.2))),
    )

pub loop-i-preserved : goal.loop-i-preserved
loop-i-preserved c =
    let zone = schedule_of c.args.set.now in
    let a = to_z-of_z_to w64 c.start_of-start.result _ (search rules) c.start_of-start.ensures in
    let b = to_z-of_z_to w64 c.start_of-next_start.result _ (search rules) c.start_of-next_start.ensures in
    let p = to_z-of_z_to w64 c.end_of-last_end.result _ (search rules) c.end_of-last_end.ensures in
    let q = to_z-of_z_to w64 c.end_of-end.result _ (search rules) c.end_of-end.ensures in
    let go = c.are_in_order.ensures.0 c.if-not-are_in_order.false in
    orderly_more zone.first zone.shifts (c.loop-i.i - 1) c.loop-i.i (omega arith) c.loop-i.invariant
    (le_same _ _ _ _ (sym a) (sym b) go.0) (le_same _ _ _ _ (sym p) (sym q) go.1) (le_same _ _ _ _ (sym p) (sym b) go.2)
