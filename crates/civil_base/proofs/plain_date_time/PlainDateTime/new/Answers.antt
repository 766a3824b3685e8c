use Rattle.std.proofs.Common.{arith, ◌≡◌, pos, ◌+ℤ◌, ◌*ℤ◌, to_z, of_z}
use mir.Syntax.{w128}
use Rattle.basics.specs.SignedLaws.{signed_casts}
use Rattle.civil_base.specs.{DayRangeLaws.{years-joined, day-numbers}, Clock.{nanos_per_day}}
use Rattle.civil_base.proofs.plain_date_time.PlainDateTime.new.Goals as goal

pub invariant_of-result : goal.invariant_of-result
invariant_of-result c =
    let k = c.day_number.result in
    let t = c.nanos_of_day.result in
    let days = day-numbers k c.day_number.ensures.bound in
    let same : to_z w128 (of_z w128 (to_z w128 (of_z w128 (to_z w128 (of_z w128 c.from.result) *ℤ pos 86400000000000)) +ℤ to_z w128
    (of_z w128 c.from-2.result))) ≡ k *ℤ pos nanos_per_day +ℤ pos t = omega (arith, signed_casts) in
    rw same (years-joined k t c.day_number.ensures.bound c.nanos_of_day.ensures.bound)
