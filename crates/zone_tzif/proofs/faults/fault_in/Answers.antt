use borrow.Author.Rules.{to_z-of_z_to}
use Rattle.std.proofs.Common.{w64, rules, sym, ap, ◌∙◌}
use Rattle.zone_spans.specs.declared.span.FixedTimespan.{FixedTimespan}
use Rattle.zone_tail.specs.Tails.{can_be_written, is_posix_name}
use Rattle.zone_tzif.{specs.Tried.{form_fault, written_or}, proofs.FormLemmas.{total_of_span-is}}
use Rattle.zone_tzif.proofs.faults.fault_in.Goals as goal

pub returns-in-Steady : goal.returns-in-Steady
unfolding form_fault
returns-in-Steady g c =
    let set = g.S.SpanTable.seen c.args.set.now in
    let shows = rw c.in-Steady.is at c.requires.form in
    let written = c.can_be_written.ensures
    ∙ ap can_be_written (to_z-of_z_to w64 c.total_of.result _ (search rules) (c.total_of.ensures.total ∙ total_of_span-is set c.in-Steady.span shows.1)) in
    let name = c.is_posix_name.ensures ∙ ap is_posix_name (c.as_str.ensures ∙ ap (λ (s : FixedTimespan). s.name) c.span.ensures) in
    c.written_or.ensures ∙ (λ i. written_or (written i) (name i)) ∙ sym (ap form_fault shows.0)

pub returns-in-Yearly : goal.returns-in-Yearly
unfolding form_fault
returns-in-Yearly g c =
    let shows = rw c.in-Yearly.is at c.requires.form in
    let written = c.are_written.ensures in
    let named = c.are_names.ensures in
    c.written_or-in-Yearly.ensures ∙ (λ i. written_or (written i) (named i)) ∙ sym (ap form_fault shows.0)

pub returns-in-Other : goal.returns-in-Other
unfolding form_fault
returns-in-Other g c =
    let shows = rw c.in-Other.is at c.requires.form in
    sym (ap form_fault shows)
