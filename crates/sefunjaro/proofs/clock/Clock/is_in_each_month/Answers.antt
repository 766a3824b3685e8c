use Rattle.std.proofs.Common.{FitsSigned, w32, rules, to_z-of_z, subst, arith}
use Rattle.basics.specs.MonthLaws.{days_in_month-bounds}
use Rattle.civil_base.specs.Ranges.{IsYear}
use Rattle.sefunjaro.proofs.clock.Clock.is_in_each_month.Goals as goal

pub returns-in-1-to-12-1-to-28 : goal.returns-in-1-to-12-1-to-28
returns-in-1-to-12-1-to-28 c true =
    let is = c.in-1-to-12-1-to-28 in
    let fits : FitsSigned w32 c.args.self.year = search rules in (
      subst IsYear (to_z-of_z fits) (c.is_year.ensures true),
      record {
        first_month = omega (arith, is);
        last_month = omega (arith, is);
        first_day = omega (arith, is);
        last_day = omega (arith, is, (days_in_month-bounds c.args.self.year c.args.self.month).0);
      },
    )
