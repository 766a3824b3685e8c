use Rattle.std.proofs.Common.{arith}
use Rattle.basics.specs.YearLaws.{days_in_year-cases}
use Rattle.civil_base.proofs.date.year_length.Goals as goal

pub returns-then-is_leap_year : goal.returns-then-is_leap_year
returns-then-is_leap_year c = grind (arith, days_in_year-cases c.args.year)

pub returns-else-is_leap_year : goal.returns-else-is_leap_year
returns-else-is_leap_year c = grind (arith, days_in_year-cases c.args.year)
