use Rattle.zone_spans.specs.ScheduleLaws.{total_is_offset}
use Rattle.tz_lookup.specs.AnswerLaws.{instants_of_dates}
use Rattle.tz_lookup.proofs.instants.InstantsIn.new.Goals as goal

pub returns-clause-exact : goal.returns-clause-exact
returns-clause-exact g c =
    instants_of_dates _ _ _ (λ t. total_is_offset _ t c.requires.accepted.range)
    (c.new.ensures.all (g.S.SpanTable.seen c.args.set.now) c.requires.accepted)
