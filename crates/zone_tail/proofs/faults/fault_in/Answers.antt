use Rattle.std.proofs.Common.{cond, Some, w64, to_z-of_z, FitsSigned, rules, sym, ap, ◌∙◌, arith}
use Rattle.zone_spans.specs.declared.span.FixedTimespan.{FixedTimespan}
use Rattle.zone_tail.{specs.LastYear.{standard_of}, specs.Tails.{can_be_written, fault_of, is_name, named_or}, specs.declared.outcome.TailFault.TheVariants.{OffsetRange}, proofs.ReadyLemmas.{total_of_span-is}, proofs.SpanLemmas.{length-shifts}}
use Rattle.zone_tail.proofs.faults.fault_in.Goals as goal

pub returns-in-Steady : goal.returns-in-Steady
returns-in-Steady g c =
    let set = g.S.SpanTable.seen c.args.set.now in
    let h = rw c.in-Steady.is at c.requires.form in
    let fits : FitsSigned w64 c.total_of.result = search rules in
    let written = c.can_be_written.ensures ∙ ap can_be_written (to_z-of_z fits ∙ c.total_of.ensures.total ∙ total_of_span-is set c.in-Steady.span (omega (arith, h.1.within, length-shifts set.others))) in
    let name = c.is_name.ensures ∙ ap is_name (c.as_str.ensures ∙ ap (λ (s : FixedTimespan). s.name) c.span.ensures) in
    c.fault_of.ensures ∙ (λ i. cond (written i) (named_or (name i)) (Some OffsetRange)) ∙ sym (ap (fault_of (standard_of set)) h.0)
