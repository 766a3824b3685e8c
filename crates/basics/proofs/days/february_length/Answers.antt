use Rattle.std.proofs.Common.{arith}
use Rattle.basics.specs.{MonthLaws.{days_in_month-february}, YearLaws.{days_in_year-cases}}
use Rattle.basics.proofs.days.february_length.Goals as goal

pub returns-then-is_leap_year-clause-value : goal.returns-then-is_leap_year-clause-value
returns-then-is_leap_year-clause-value c = grind (arith, days_in_month-february c.args.year, days_in_year-cases c.args.year)

pub returns-else-is_leap_year-clause-value : goal.returns-else-is_leap_year-clause-value
returns-else-is_leap_year-clause-value c = grind (arith, days_in_month-february c.args.year, days_in_year-cases c.args.year)
