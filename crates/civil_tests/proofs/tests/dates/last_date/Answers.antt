use Rattle.std.proofs.Common.{refl}
use Rattle.basics.specs.Days.{is_leap, days_in_year, days_in_month, days_after_zero, days_before_zero, year_start, days_through, days_into_year, day}
use Rattle.civil_tests.proofs.tests.dates.last_date.Goals as goal

pub returns : goal.returns
unfolding is_leap days_in_year days_in_month days_after_zero days_before_zero year_start days_through days_into_year day
returns c = refl
