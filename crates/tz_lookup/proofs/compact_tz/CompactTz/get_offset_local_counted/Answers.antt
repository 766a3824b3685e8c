use Rattle.std.proofs.Common.{◌∙◌}
use Rattle.tz_lookup.specs.AnswerLaws.{instants_of_offsets}
use Rattle.tz_lookup.proofs.compact_tz.CompactTz.get_offset_local_counted.Goals as goal

pub returns-clause-names : goal.returns-clause-names
returns-clause-names g c = c.of_spans.ensures.names _ c.local_spans_counted.ensures.read

pub returns-clause-exact : goal.returns-clause-exact
returns-clause-exact g c = λ orderly.
    instants_of_offsets _ _ _ c.args.self.now.set.now.range (c.args.self.now.set.now.two orderly _)
    (c.of_spans.ensures.totals ∙ c.local_spans_counted.ensures.totals)
