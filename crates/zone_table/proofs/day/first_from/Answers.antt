use Rattle.std.proofs.{Common.{◌≡◌, ◌<◌, arith, w32}, lemmas.Int.{ints}}
use Rattle.basics.specs.Weekdays.{weekday_of}
use Rattle.zone_table.specs.{Weekdays.{weekday_number}, WeekdayLaws.{first_from-is}}
use mir.Val.{of_z, to_z}
use Rattle.zone_table.proofs.day.first_from.Goals as goal

pub returns-clause-value : goal.returns-clause-value
returns-clause-value c =
    let same : to_z w32 (of_z w32 c.args.day) ≡ c.args.day = omega (arith, ints) in
    let start : c.weekday.result ≡ weekday_of c.args.day = rw same at c.weekday.ensures.value in
    let small : weekday_number c.args.weekday < 7 = omega arith in
    let within : weekday_of c.args.day < 7 = omega arith in
    rw (first_from-is (weekday_number c.args.weekday) c.args.day small) (omega (arith, ints))
