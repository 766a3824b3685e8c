use Rattle.zone_spans.specs.Schedules.{total_at}
use Rattle.tz_lookup.specs.{AnswerLaws.{all_of_two}, Sets.{schedule_of}}
use Rattle.tz_lookup.proofs.tz.TzAllInstants.begin.Goals as goal

pub returns-then-self : goal.returns-then-self
returns-then-self c =
    let zone = c.args.self.now in
    let x = c.args.local.now in
    all_of_two (total_at (schedule_of zone.set.now)) x _ (zone.two (zone.marked.0 c.if-self.true) x) c.assume_timezone.ensures.shown
