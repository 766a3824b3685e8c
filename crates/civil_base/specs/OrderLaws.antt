-- Dates with a time of day are in order by the date, and then by the time.
use Rattle.std.{specs.Prelude.{ℕ, ◌<◌, ℤ, pos, ◌+ℤ◌, ◌*ℤ◌, ◌<ℤ◌}, proofs.Common.{arith}}
use Rattle.basics.specs.SignedLaws.{signed}
use Rattle.civil_base.specs.Clock.{nanos_per_day}

pub earlier_date : (k l : ℤ) (t u : ℕ) → t < nanos_per_day → k <ℤ l
    → (k *ℤ pos nanos_per_day +ℤ pos t) <ℤ (l *ℤ pos nanos_per_day +ℤ pos u)
earlier_date k l t u small earlier = omega (arith, signed)

pub earlier_time : (k : ℤ) (t u : ℕ) → t < u → (k *ℤ pos nanos_per_day +ℤ pos t) <ℤ (k *ℤ pos nanos_per_day +ℤ pos u)
earlier_time k t u earlier = omega (arith, signed)
