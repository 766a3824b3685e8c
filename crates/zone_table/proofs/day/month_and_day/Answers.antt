use Rattle.std.proofs.{Common.{◌≡◌, pos, arith, w8, w32}, lemmas.Int.{ints}}
use Rattle.basics.specs.MonthLaws.{days_in_month-bounds}
use mir.Val.{of_z, to_z}
use Rattle.zone_table.proofs.day.month_and_day.Goals as goal

pub overflow_cast-result : goal.overflow_cast-result
overflow_cast-result c =
    let date = c.date_of-date.result in
    omega (arith, ints, c.date_of-date.ensures.date.last_day, (days_in_month-bounds date.year date.month).1)

pub returns : goal.returns
returns c =
    let date = c.date_of-date.result in
    let told = c.date_of-date.ensures in
    let same : to_z w32 (of_z w32 c.args.day) ≡ c.args.day = omega (arith, ints) in
    let cast : to_z w8 date.day ≡ pos date.day = omega (arith, ints, told.date.last_day, (days_in_month-bounds date.year date.month).1) in
    let month = rw same at told.month in
    let day = rw same at told.day in
    rw (c.numbered.ensures, cast, month, day)
