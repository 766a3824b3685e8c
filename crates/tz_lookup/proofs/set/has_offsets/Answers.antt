use Rattle.std.{proofs.Common.{sym, ap, ◌∙◌}, specs.Prelude.{◌&&◌}, specs.List.{list_all}}
use Rattle.zone_spans.specs.Entries.{Entry, total}
use Rattle.civil_base.specs.Ranges.{is_offset}
use Rattle.tz_lookup.{specs.{Sets.{shifts_of}, Spans.{Shift}}, proofs.SetLemmas.{tests_of_shifts}}
use Rattle.tz_lookup.proofs.set.has_offsets.Goals as goal

pub returns-then-has_offset : goal.returns-then-has_offset
returns-then-has_offset c =
    let set = c.args.set.now in
    let others = list_all (λ (s : Shift). is_offset s.1) (shifts_of set) in
    c.have_offsets.ensures ∙ ap (list_all (λ (e : Entry). is_offset (total e.1))) c.entries.ensures ∙ tests_of_shifts set.others
    ∙ sym (ap (λ b. b && others) (sym c.has_offset.ensures ∙ c.if-has_offset.true))
