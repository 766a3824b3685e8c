use Rattle.std.proofs.{Common.{arith}, lemmas.Int.{ints}}
use Rattle.zone_table.proofs.time.TimeSpec.as_seconds.Goals as goal

pub returns-in-HoursMinutesSeconds : goal.returns-in-HoursMinutesSeconds
returns-in-HoursMinutesSeconds c = rw c.in-HoursMinutesSeconds.is (omega (arith, ints))
