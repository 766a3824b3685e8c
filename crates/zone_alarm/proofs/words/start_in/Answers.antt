use Rattle.std.proofs.Common.{sym, arith}
use Rattle.zone_alarm.{specs.Words.{start_text}, proofs.LineLemmas.{start_length, too_long}}
use Rattle.zone_alarm.proofs.words.start_in.Goals as goal

pub returns-then-start-time-gt-LONGEST : goal.returns-then-start-time-gt-LONGEST
returns-then-start-time-gt-LONGEST c =
    sym (too_long (start_text c.args.start.now c.args.time.now)
    (omega (arith, c.if-start-time-gt-LONGEST.true, start_length c.args.start.now c.args.time.now)))
