use Rattle.std.proofs.Common.{◌≡◌, suc, ◌+◌, ap, ◌∙◌, arith}
use Rattle.tz_lookup.specs.Sets.{span_in}
use Rattle.zone_tail.proofs.spans.entry_span.Goals as goal

pub returns : goal.returns
returns g c =
    let next : c.args.number + 1 ≡ suc c.args.number = omega arith in
    c.span.ensures ∙ ap (span_in (g.S.SpanTable.seen c.args.set.now)) next
