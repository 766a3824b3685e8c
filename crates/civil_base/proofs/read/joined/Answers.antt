use Rattle.std.proofs.Common.{arith, ℤ, ◌*ℤ◌, ◌+ℤ◌, pos, ◌≡◌, ℕ, ◌<◌}
use Rattle.basics.specs.SignedLaws.{signed}
use Rattle.civil_base.specs.{Clock.{nanos_per_day}, Layout.{day_part, time_part}}
use Rattle.civil_base.proofs.read.joined.Goals as goal

day-is : (x d : ℤ) (t : ℕ) → x ≡ d *ℤ pos nanos_per_day +ℤ pos t → t < nanos_per_day → day_part x ≡ d
unfolding day_part
day-is x d t is within = omega (arith, signed)

time-is : (x d : ℤ) (t : ℕ) → x ≡ d *ℤ pos nanos_per_day +ℤ pos t → t < nanos_per_day → time_part x ≡ t
unfolding time_part
time-is x d t is within = omega (arith, signed)

pub returns-clause-day : goal.returns-clause-day
returns-clause-day c = day-is c.new.result c.args.date c.args.time c.new.ensures (omega arith)

pub returns-clause-time : goal.returns-clause-time
returns-clause-time c = time-is c.new.result c.args.date c.args.time c.new.ensures (omega arith)
