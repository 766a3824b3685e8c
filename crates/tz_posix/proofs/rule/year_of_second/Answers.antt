use Rattle.std.{proofs.Common.{refl, arith, ◌≡◌, ℤ, pos, neg_ℤ, ◌≤ℤ◌, ◌<ℤ◌, w32, w64, to_z, of_z, to_z-of_z}, specs.Int.{int_div_euclid}}
use Rattle.basics.specs.{Dates.{year_of}, ComparisonLaws.{le_from_pass, le_from_fail, lt_from_pass, lt_from_fail}, SignedLaws.{signed, signed_casts, floored}}
use Rattle.civil_base.specs.Ranges.{first_day, last_day, IsDay}
use Rattle.tz_posix.proofs.{YearLemmas.{is_year-inside, is_year-later, is_year-earlier}, rule.year_of_second.Goals.{then-second-lt-FIRST_SECOND-via-then-second-lt-FIRST_SECOND, then-second-lt-FIRST_SECOND-via-else-second-lt-FIRST_SECOND+then-second-ge-END}}
use Rattle.tz_posix.proofs.rule.year_of_second.Goals as goal

-- the day of a second
abbrev day_at : ℤ → ℤ
day_at second = int_div_euclid second (pos 86400)

earlier : (s : ℤ) → s <ℤ neg_ℤ (pos 377705116800) → day_at s <ℤ first_day
earlier s h = omega (arith, signed, floored s 86400)

later : (s : ℤ) → pos 253402300800 ≤ℤ s → last_day <ℤ day_at s
later s h = omega (arith, signed, floored s 86400)

inside : (s : ℤ) → neg_ℤ (pos 377705116800) ≤ℤ s → s <ℤ pos 253402300800 → IsDay (day_at s)
inside s low high = record { first = omega (arith, signed, floored s 86400); last = omega (arith, signed, floored s 86400) }

pub returns-then-second-lt-FIRST_SECOND : goal.returns-then-second-lt-FIRST_SECOND
returns-then-second-lt-FIRST_SECOND c =
    let same = to_z-of_z c.ranges.second in
    elim c.then-second-lt-FIRST_SECOND.branch [
      | then-second-lt-FIRST_SECOND-via-then-second-lt-FIRST_SECOND w ↦
          is_year-earlier (day_at c.args.second) (earlier c.args.second (lt_from_pass _ _ (rw same at w.if-second-lt-FIRST_SECOND.true)))
      | then-second-lt-FIRST_SECOND-via-else-second-lt-FIRST_SECOND+then-second-ge-END w ↦
          is_year-later (day_at c.args.second) (later c.args.second (le_from_pass _ _ (rw same at w.if-second-ge-END.true)))
    ]

found : (c : goal.After-struct_told-1) → IsDay (day_at c.args.second) × (c.date_of.result.year ≡ year_of (day_at c.args.second))
found c =
    let same = to_z-of_z c.ranges.second in
    let within = inside c.args.second
    (lt_from_fail _ _ (rw same at c.if-second-lt-FIRST_SECOND.false)) (le_from_fail _ _ (rw same at c.if-second-ge-END.false)) in
    let quotient = rw same at c.div_euclid.ensures in
    let number : to_z w32 (of_z w32 (to_z w64 (of_z w64 c.div_euclid.result))) ≡ day_at c.args.second =
    omega (arith, signed_casts, quotient, within.first, within.last) in
    (within, rw number at c.date_of.ensures.year)

pub returns : goal.returns
returns c =
    let is = found c in
    let year : to_z w32 (of_z w32 c.date_of.result.year) ≡ c.date_of.result.year =
    omega (arith, signed_casts, c.date_of.ensures.years.first, c.date_of.ensures.years.last) in
    rw (year, is.1) (refl, is_year-inside (day_at c.args.second) is.0)
