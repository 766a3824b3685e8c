use Rattle.std.proofs.Common.{ap, ◌∙◌}
use Rattle.civil_base.specs.Ranges.{is_offset}
use Rattle.zone_spans.specs.Entries.{total}
use Rattle.zone_tzif.proofs.PlaceLemmas.{span_small}
use Rattle.zone_tzif.proofs.causes.kind_at.Goals as goal

pub record_of-requires : goal.record_of-requires
record_of-requires g c =
    ap (λ span. is_offset (total span)) c.span_or_first.ensures ∙ span_small (g.S.SpanTable.seen c.args.set.now) c.args.number c.requires
