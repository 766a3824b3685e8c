use Rattle.std.proofs.{Common.{w32, SFits, rules, ap, ◌∙◌}, lemmas.Int.{to_z-of_z}}
use Rattle.zone_spans.specs.Entries.{total}
use Rattle.civil_base.specs.Ranges.{is_offset}
use Rattle.tz_lookup.proofs.SetLemmas.{span_total, span_offset}
use Rattle.tz_lookup.proofs.lookups.total.Goals as goal

pub total_of-requires : goal.total_of-requires
total_of-requires g c =
    let set = (g.T.SpanTable.seen c.args.set.now) in
    ap (λ span. is_offset (total span)) c.span.ensures
    ∙ ap is_offset (span_total set c.args.index c.requires.within)
    ∙ span_offset set c.args.index c.requires.accepted c.requires.within

pub returns : goal.returns
returns g c =
    let fits : SFits w32 c.total_of.result = search rules in
    to_z-of_z w32 _ fits ∙ c.total_of.ensures ∙ ap total c.span.ensures ∙ span_total (g.T.SpanTable.seen c.args.set.now) c.args.index c.requires.within
