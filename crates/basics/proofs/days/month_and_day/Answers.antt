use Rattle.std.proofs.Common.{arith, ◌<◌, ◌-◌, to_z-of_z, ap}
use Rattle.basics.specs.{Days.{days_in_year}, MonthLaws.{days_through-two, days_in_month-january, days_in_month-february, march_month, march_day}}
use Rattle.basics.proofs.days.month_and_day.Goals as goal

pub returns-then-day_of_year-lt31-clause-value : goal.returns-then-day_of_year-lt31-clause-value
returns-then-day_of_year-lt31-clause-value c = omega (arith, days_through-two c.args.year)

pub returns-then-day_of_year-lt31-clause-date : goal.returns-then-day_of_year-lt31-clause-date
returns-then-day_of_year-lt31-clause-date c = record {
  first_month = omega arith;
  last_month = omega arith;
  first_day = omega arith;
  last_day = omega (arith, days_in_month-january c.args.year);
}

pub returns-then-day_of_year-before_march-clause-value :
    goal.returns-then-day_of_year-before_march-clause-value
returns-then-day_of_year-before_march-clause-value c =
    omega (arith, days_through-two c.args.year)

pub returns-then-day_of_year-before_march-clause-date : goal.returns-then-day_of_year-before_march-clause-date
returns-then-day_of_year-before_march-clause-date c = record {
  first_month = omega arith;
  last_month = omega arith;
  first_day = omega arith;
  last_day = omega (arith, days_in_month-february c.args.year, ap days_in_year (to_z-of_z c.ranges.year));
}

pub returns-else-day_of_year-before_march-clause-value :
    goal.returns-else-day_of_year-before_march-clause-value
returns-else-day_of_year-before_march-clause-value c =
    let k = c.args.day_of_year - c.days_before_march-before_march.result in
    let same = ap days_in_year (to_z-of_z c.ranges.year) in
    omega (arith, march_month c.args.year k (omega arith))

pub returns-else-day_of_year-before_march-clause-date :
    goal.returns-else-day_of_year-before_march-clause-date
returns-else-day_of_year-before_march-clause-date c =
    let k = c.args.day_of_year - c.days_before_march-before_march.result in
    let same = ap days_in_year (to_z-of_z c.ranges.year) in
    let low : k < 306 = omega arith in
    record {
      first_month = omega arith;
      last_month = omega arith;
      first_day = omega arith;
      last_day = march_day c.args.year k low;
    }
