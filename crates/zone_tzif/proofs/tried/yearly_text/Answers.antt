use Rattle.std.proofs.{Common.{◌≡◌, ◌++◌, ◌+ℤ◌, FitsSigned, w64, rules, to_z-of_z, sym, ap, ◌∙◌, subst, true}, lemmas.Bool.{and_parts}}
use Rattle.zone_spans.specs.declared.span.FixedTimespan.{FixedTimespan}
use Rattle.zone_tail.specs.{Shapes.{entry_in}, Tails.{can_be_written}, Texts.{name_text, offset_text, saving_text}}
use Rattle.zone_tzif.specs.Tried.{changes_by, tried_for}
use Rattle.zone_tzif.proofs.tried.yearly_text.Goals as goal

pub local_of-start_local-requires-clause-of_year : goal.local_of-start_local-requires-clause-of_year
local_of-start_local-requires-clause-of_year g c = (and_parts _ _ c.requires.placed.of_year).0

pub local_of-end_local-requires-clause-of_year : goal.local_of-end_local-requires-clause-of_year
local_of-end_local-requires-clause-of_year g c = (and_parts _ _ c.requires.placed.of_year).1

pub totals_text-requires-clause-standard : goal.totals_text-requires-clause-standard
totals_text-requires-clause-standard g c =
    let fits : FitsSigned w64 c.total_of_entry-standard.result = search rules in
    subst (λ t. can_be_written t ≡ true) (sym (to_z-of_z fits ∙ c.total_of_entry-standard.ensures.is)) (and_parts _ _ c.requires.written).0

pub totals_text-requires-clause-saving : goal.totals_text-requires-clause-saving
totals_text-requires-clause-saving g c =
    let fits : FitsSigned w64 c.total_of_entry-saving.result = search rules in
    subst (λ t. can_be_written t ≡ true) (sym (to_z-of_z fits ∙ c.total_of_entry-saving.ensures.is)) (and_parts _ _ c.requires.written).1

pub returns : goal.returns
unfolding tried_for
returns g c =
    let set = g.S.SpanTable.seen c.args.set.now in
    let fits_standard : FitsSigned w64 c.total_of_entry-standard.result = search rules in
    let fits_saving : FitsSigned w64 c.total_of_entry-saving.result = search rules in
    let fits_start : FitsSigned w64 c.local_of-start_local.result = search rules in
    let fits_end : FitsSigned w64 c.local_of-end_local.result = search rules in
    let standard = to_z-of_z fits_standard ∙ c.total_of_entry-standard.ensures.is in
    let saving = to_z-of_z fits_saving ∙ c.total_of_entry-saving.ensures.is in
    let end_name = c.as_str.ensures ∙ ap (λ (s : FixedTimespan). s.name) c.entry_span.ensures in
    let start_name = c.as_str-2.ensures ∙ ap (λ (s : FixedTimespan). s.name) c.entry_span-2.ensures in
    let start = to_z-of_z fits_start ∙ c.local_of-start_local.ensures.is ∙ ap (λ t. (entry_in set c.args.start).0 +ℤ t) standard in
    let end = to_z-of_z fits_end ∙ c.local_of-end_local.ensures.is ∙ ap (λ t. (entry_in set c.args.end).0 +ℤ t) saving in
    let totals = c.in_ok-text.ensures ∙ (λ i. name_text (end_name i) ++ offset_text (standard i) ++ name_text (start_name i) ++ saving_text (standard i) (saving i)) in
    c.in_ok-add_changes.ensures ∙ (λ i. totals i ++ changes_by (start i) (end i) c.args.number)
