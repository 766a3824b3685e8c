use Rattle.std.proofs.Common.{arith, to_z-of_z, ap, sym, ◌≡◌, ◌∙◌, w32, to_z, of_z}
use Rattle.basics.specs.{Days.{day}, MonthLaws.{days_in_month-bounds}}
use Rattle.civil_base.specs.DayRangeLaws.{date-inside}
use Rattle.tz_posix.{specs.WeekdayLaws.{IsFound, found}, proofs.DateLemmas.{value_is}}
use Rattle.tz_posix.proofs.date.nth_day.Goals as goal

pub day_number-requires-clause-last_day : goal.day_number-requires-clause-last_day
day_number-requires-clause-last_day c =
    let first = c.first_weekday-first.ensures in
    let year = to_z-of_z c.ranges.year in
    let is = found c.args.year c.args.m c.args.n c.args.d c.first_weekday-first.result c.nth_weekday.result
    c.requires.year c.requires.date (rw year at first.value) first.first first.last
    (rw year at c.nth_weekday.ensures.nth) in
    omega (arith, is.date.last_day, (days_in_month-bounds c.args.year c.args.m).1)

is_found : (c : goal.After-day_number) → IsFound c.args.year c.args.m c.args.n c.args.d c.nth_weekday.result
is_found c =
    let first = c.first_weekday-first.ensures in
    let year = to_z-of_z c.ranges.year in
    found c.args.year c.args.m c.args.n c.args.d c.first_weekday-first.result c.nth_weekday.result
    c.requires.year c.requires.date (rw year at first.value) first.first first.last
    (rw year at c.nth_weekday.ensures.nth)

number_is : (c : goal.After-day_number) → to_z w32 (of_z w32 c.day_number.result) ≡ day c.args.year c.args.m c.nth_weekday.result
number_is c =
    let day_is = rw (to_z-of_z c.ranges.year) at c.day_number.ensures.value in
    value_is _ _ c.day_number.ensures.least c.day_number.ensures.greatest day_is

pub returns-clause-value : goal.returns-clause-value
returns-clause-value c = number_is c ∙ ap (day c.args.year c.args.m) (sym (is_found c).nth)

pub returns-clause-inside : goal.returns-clause-inside
returns-clause-inside c = λ year. rw (number_is c) (date-inside c.args.year c.args.m c.nth_weekday.result year (is_found c).date)
