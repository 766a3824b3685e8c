use Rattle.std.proofs.Common.{◌∙◌, ap}
use Rattle.civil_base.specs.Ranges.{is_offset}
use Rattle.zone_spans.specs.Entries.{total}
use Rattle.zone_tzif_core.specs.Totals.{file_total_at}
use Rattle.zone_tzif.{specs.Values.{kind_by}, proofs.PlaceLemmas.{span_small}, proofs.TotalLemmas.{parts_are, totals_kept}, proofs.ValueLemmas.{value_is}}
use Rattle.zone_tzif.proofs.convert.zone_by.Goals as goal

pub kind_of-requires : goal.kind_of-requires
kind_of-requires g c =
    ap (λ span. is_offset (total span)) c.span.ensures ∙ span_small (g.S.SpanTable.seen c.args.set.now) 0 c.requires

pub returns-clause-value : goal.returns-clause-value
returns-clause-value g c =
    parts_are c.args.saves (g.S.SpanTable.seen c.args.set.now) c.args.footer.now _ _ _ (c.in_ok-kind_of.ensures ∙ ap (kind_by c.args.saves) c.span.ensures) c.in_ok-changes_of.ensures c.in_ok-from_str.ensures.ok

pub returns-clause-typed : goal.returns-clause-typed
returns-clause-typed g c =
    let set = g.S.SpanTable.seen c.args.set.now in
    value_is c.args.saves set c.args.footer.now (record { first = c.in_ok-kind_of.field-0; rest = c.in_ok-changes_of.field-0; footer = c.in_ok-from_str.field-0 }) c.requires.bound
    (parts_are c.args.saves set c.args.footer.now _ _ _ (c.in_ok-kind_of.ensures ∙ ap (kind_by c.args.saves) c.span.ensures) c.in_ok-changes_of.ensures c.in_ok-from_str.ensures.ok)

pub returns-clause-totals : goal.returns-clause-totals
returns-clause-totals g c =
    let set = g.S.SpanTable.seen c.args.set.now in
    let value = parts_are c.args.saves set c.args.footer.now _ _ _ (c.in_ok-kind_of.ensures ∙ ap (kind_by c.args.saves) c.span.ensures) c.in_ok-changes_of.ensures c.in_ok-from_str.ensures.ok in
    λ t. ap (λ z. file_total_at z t) value ∙ totals_kept c.args.saves set c.args.footer.now t
