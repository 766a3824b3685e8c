use Rattle.std.{proofs.Common.{arith, ◌≤ℤ◌, ◌<ℤ◌, ℤ, pos, neg_ℤ, sym, to_z-of_z}, specs.Int.{int_div_euclid}}
use Rattle.basics.specs.{ComparisonLaws.{le_from_pass, lt_from_pass}, SignedLaws.{signed, floored}}
use Rattle.civil_base.specs.Ranges.{first_day, last_day}
use Rattle.tz_posix.proofs.YearLemmas.{year_of-later, year_of-earlier}
use Rattle.tz_posix.proofs.rule.counted_year.Goals as goal

earlier : (s : ℤ) → s <ℤ neg_ℤ (pos 377705116800) → int_div_euclid s (pos 86400) <ℤ first_day
earlier s h = omega (arith, signed, floored s 86400)

later : (s : ℤ) → pos 253402300800 ≤ℤ s → last_day <ℤ int_div_euclid s (pos 86400)
later s h = omega (arith, signed, floored s 86400)

pub returns-then-second-lt-FIRST_SECOND-clause-year : goal.returns-then-second-lt-FIRST_SECOND-clause-year
returns-then-second-lt-FIRST_SECOND-clause-year c =
    let same = to_z-of_z c.ranges.second in
    sym (year_of-earlier _ (earlier c.args.second (lt_from_pass _ _ (rw same at c.if-second-lt-FIRST_SECOND.true))))

pub returns-then-second-ge-END-clause-year : goal.returns-then-second-ge-END-clause-year
returns-then-second-ge-END-clause-year c =
    let same = to_z-of_z c.ranges.second in
    sym (year_of-later _ (later c.args.second (le_from_pass _ _ (rw same at c.if-second-ge-END.true))))
