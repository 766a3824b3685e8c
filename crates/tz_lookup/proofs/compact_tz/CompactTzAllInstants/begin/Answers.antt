use Rattle.zone_spans.specs.Schedules.{total_at}
use Rattle.tz_lookup.specs.{AnswerLaws.{all_of_two}, Sets.{schedule_of}, CompactShown.{seen}}
use Rattle.tz_lookup.proofs.compact_tz.CompactTzAllInstants.begin.Goals as goal

pub returns-then-is_orderly : goal.returns-then-is_orderly
returns-then-is_orderly c =
    let set = c.args.self.now.set.now in
    let x = c.args.local.now in
    all_of_two (total_at (schedule_of (seen set))) x _ (set.two (c.is_orderly.ensures.0 c.if-is_orderly.true) x) c.assume_timezone.ensures.shown

pub returns-else-is_orderly : goal.returns-else-is_orderly
returns-else-is_orderly c = c.new.ensures.all (seen c.args.self.now.set.now) c.args.self.now.set.now.accepted
