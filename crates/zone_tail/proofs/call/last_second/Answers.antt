use Rattle.std.proofs.{Common.{◌≡◌, ℤ, pos, ◌-ℤ◌, w64, to_z, of_z, to_z-of_z, FitsSigned, rules, sym, subst, ◌∙◌, arith}, lemmas.Int.{ints}}
use Rattle.zone_tail.{specs.LastYear.{standard_of, year_end}, specs.Ready.{IsReady}, proofs.ReadyLemmas.{ready_before_entry, ready_far, standard_small, yearly_ready}}
use Rattle.zone_tail.proofs.call.last_second.Goals as goal
use Rattle.civil_base.specs.{RangeLaws.{offset_greatest, offset_least}, Ranges.{IsOffset}}

difference : (o p : ℤ) → FitsSigned w64 o → o ≡ p → IsOffset p → FitsSigned w64 (pos 4102444800 -ℤ to_z w64 (of_z w64 o))
difference o p fits is small = omega (arith, ints, is, offset_least p small, offset_greatest p small)

difference_is : (o p : ℤ) → FitsSigned w64 o → o ≡ p → IsOffset p → to_z w64 (of_z w64 (pos 4102444800 -ℤ to_z w64 (of_z w64 o))) ≡ year_end -ℤ p
difference_is o p fits is small = omega (arith, ints, is, offset_least p small, offset_greatest p small)

pub overflow_sub-result : goal.overflow_sub-result
overflow_sub-result g c =
    let small = standard_small (g.S.SpanTable.seen c.args.set.now) c.requires.accepted c.in-Yearly.start c.in-Yearly.end (rw c.in-Yearly.is at c.requires.form) in
    difference c.args.offset (standard_of (g.S.SpanTable.seen c.args.set.now)) c.ranges.offset c.requires.offset small

pub returns-then-span-entry_count : goal.returns-then-span-entry_count
returns-then-span-entry_count g c =
    let fits : FitsSigned w64 c.time.result = search rules in
    ready_before_entry (g.S.SpanTable.seen c.args.set.now) c.requires.accepted c.in-Steady.span (rw c.in-Steady.is at c.requires.form) _ (omega (arith, c.entry_count.ensures.count)) (to_z-of_z fits ∙ c.time.ensures)

pub returns-else-span-entry_count : goal.returns-else-span-entry_count
returns-else-span-entry_count g c =
    ready_far (g.S.SpanTable.seen c.args.set.now) c.requires.accepted c.in-Steady.span (rw c.in-Steady.is at c.requires.form) (omega (arith, c.entry_count.ensures.count))

pub returns-in-Yearly : goal.returns-in-Yearly
returns-in-Yearly g c =
    let h = rw c.in-Yearly.is at c.requires.form in
    let small = standard_small (g.S.SpanTable.seen c.args.set.now) c.requires.accepted c.in-Yearly.start c.in-Yearly.end h in
    subst (IsReady (g.S.SpanTable.seen c.args.set.now)) (sym (difference_is c.args.offset (standard_of (g.S.SpanTable.seen c.args.set.now)) c.ranges.offset c.requires.offset small))
    (yearly_ready (g.S.SpanTable.seen c.args.set.now) c.requires.accepted c.in-Yearly.start c.in-Yearly.end h)
