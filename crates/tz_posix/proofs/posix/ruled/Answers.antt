use Rattle.std.proofs.Common.{to_z-of_z}
use Rattle.tz_posix.{specs.Offsets.{given_of}, specs.NamedShown.{named_of}, specs.Yearly.{time_shown}, proofs.GivenLemmas.{given_by_rule}}
use Rattle.tz_posix.proofs.posix.ruled.Goals as goal

pub returns-in-Ok-clause-value : goal.returns-in-Ok-clause-value
returns-in-Ok-clause-value c =
    given_by_rule (named_of c.args.standard.now) (named_of c.args.saving.now) (time_shown c.args.rule.now.start)
    (time_shown c.args.rule.now.end)
    c.args.second (given_of c.chosen.result) c.in-Ok.holds
    (rw (to_z-of_z c.ranges.second) at c.in-Ok.ensures.value) c.chosen.ensures.is c.chosen.ensures.saving
