use Rattle.std.proofs.Common.{◌≡◌, suc, ◌+◌, ◌&&◌, w64, to_z-of_z, FitsSigned, rules, sym, ap, ◌∙◌, arith}
use Rattle.zone_spans.specs.Entries.{total}
use Rattle.tz_lookup.specs.Sets.{total_of_span}
use Rattle.zone_tail.{specs.Shapes.{entry_in}, specs.Tails.{can_be_written}, proofs.ReadyLemmas.{total_of_span-is}}
use Rattle.zone_tail.proofs.faults.are_written.Goals as goal

pub returns-then-can_be_written : goal.returns-then-can_be_written
returns-then-can_be_written g c =
    let set = g.S.SpanTable.seen c.args.set.now in
    let fits : FitsSigned w64 c.total_of.result = search rules in
    let next : c.args.start + 1 ≡ suc c.args.start = omega arith in
    let first = ap can_be_written (sym (to_z-of_z c.ranges.offset)) ∙ sym c.can_be_written.ensures ∙ c.if-can_be_written.true in
    let sum : c.total_of.result ≡ total (entry_in set c.args.start).1 = c.total_of.ensures.total ∙ ap (total_of_span set) next ∙ total_of_span-is set (suc c.args.start) (omega (arith, c.requires.start)) in
    c.can_be_written-then-can_be_written.ensures ∙ ap can_be_written (to_z-of_z fits ∙ sum)
    ∙ ap (λ b. b && can_be_written (total (entry_in set c.args.start).1)) (sym first)
