use Rattle.std.proofs.{Common.{arith}, lemmas.Bool.Decides.{nat_tests}}
use Rattle.basics.specs.Days.{days_in_month}
use Rattle.basics.proofs.days.month_length.Goals as goal

pub returns-in-4-clause-value : goal.returns-in-4-clause-value
unfolding days_in_month
returns-in-4-clause-value c = grind (arith, nat_tests)

pub returns-in_default-clause-value : goal.returns-in_default-clause-value
unfolding days_in_month
returns-in_default-clause-value c = grind (arith, nat_tests)
