use Rattle.std.proofs.Common.{w64, to_z-of_z, FitsSigned, rules, ap, ◌∙◌}
use Rattle.zone_spans.specs.declared.span.FixedTimespan.{FixedTimespan}
use Rattle.zone_tail.proofs.FormLemmas.{standard_from_count}
use Rattle.zone_tail.proofs.last_year.standard_of.Goals as goal

pub returns : goal.returns
returns g c =
    let fits : FitsSigned w64 c.span.result.now.utc_offset = search rules in
    to_z-of_z fits ∙ ap (λ (s : FixedTimespan). s.utc_offset) c.span.ensures
    ∙ standard_from_count (g.S.SpanTable.seen c.args.set.now) c.entries_before.result c.entries_before.ensures
