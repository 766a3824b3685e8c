use Rattle.std.proofs.Common.{◌+◌, w64, to_z-of_z, FitsSigned, rules, ap, ◌∙◌}
use Rattle.civil_base.specs.Ranges.{is_offset}
use Rattle.zone_spans.specs.Entries.{total}
use Rattle.zone_tzif.{specs.Values.{kind_by}, proofs.PlaceLemmas.{change_is, span_small}}
use Rattle.zone_tzif.proofs.convert.change_at.Goals as goal

pub kind_of-requires : goal.kind_of-requires
kind_of-requires g c =
    ap (λ span. is_offset (total span)) c.span.ensures
    ∙ span_small (g.S.SpanTable.seen c.args.set.now) (c.args.place + 1) c.requires.accepted

pub returns : goal.returns
returns g c =
    let time : FitsSigned w64 c.time-time.result = search rules in
    change_is c.args.saves (g.S.SpanTable.seen c.args.set.now) c.args.place _ _ c.requires.within (to_z-of_z time ∙ c.time-time.ensures)
    (c.in_ok-kind.ensures ∙ ap (kind_by c.args.saves) c.span.ensures)
