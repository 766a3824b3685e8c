use Rattle.std.proofs.{Common.{◌≡◌, pos, ◌+ℤ◌, arith, w32}, lemmas.Int.{ints}}
use Rattle.basics.specs.Days.{day}
use Rattle.zone_table.specs.Days.{is_in_year}
use mir.Val.{of_z, to_z}
use Rattle.zone_table.proofs.day.is_in_year.Goals as goal

pub returns-then-start-day-clause-value : goal.returns-then-start-day-clause-value
unfolding is_in_year
returns-then-start-day-clause-value c =
    let same : to_z w32 (of_z w32 c.args.year) ≡ c.args.year = omega (arith, ints) in
    let further : to_z w32 (of_z w32 (to_z w32 (of_z w32 c.args.year) +ℤ pos 1)) ≡ c.args.year +ℤ pos 1 = omega (arith, ints) in
    let start : c.first_day-start.result ≡ day c.args.year 1 1 = rw same at c.first_day-start.ensures.value in
    let next : c.first_day-next.result ≡ day (c.args.year +ℤ pos 1) 1 1 = rw further at c.first_day-next.ensures.value in
    rw (← start, ← next) (grind (arith, ints))
