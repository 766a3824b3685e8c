-- The words of the agreement on cases that are known from outside; times are those of `date -u -d`.
use Rattle.std.proofs.Common.{◌≡◌, refl, arith, [], ◌∷◌, map, None, ℤ, pos, neg_ℤ, negsuc}
use Rattle.basics.specs.{Dates.{last_with}, Days.{is_leap, days_in_year, days_in_month, days_after_zero, year_start, days_through, days_into_year, day}, SignedLaws.{signed}, Weekdays.{weekday_of}}
use Rattle.zone_table.specs.{Days.{first_from, named_day}, declared.day.DaySpec.TheVariants.{FirstOnOrAfter, Last}, declared.month.Month.TheVariants.{March, April, October, November}, declared.weekday.Weekday.TheVariants.{Sunday, Thursday, Saturday}, Moments.{instant_of, moment}, declared.zone.Format.{Format}, declared.zone.Saving.TheVariants.{Multiple}, declared.zone.ZoneInfo.{ZoneInfo}}
use Rattle.tz_posix.specs.{Agreement.{IsInRuleYears, IsRuleYear, IsSameDay, IsTimeOfDay, end_in, first_year, start_in, from_first, from_eighth, from_fifteenth, from_twenty_second, last_of_month}, RealPairs.{lord_howe_rules, moldova_rules, us_rules}}
use Rattle.tz_posix.specs.declared.date.Date.TheVariants.{M}

-- days of rules of the tz database, each with the date that `zic` writes for it
worked_days : IsSameDay November Sunday (FirstOnOrAfter Sunday (pos 1)) (M 11 1 0)
    × IsSameDay March Sunday (FirstOnOrAfter Sunday (pos 8)) (M 3 2 0)
    × IsSameDay October Sunday (FirstOnOrAfter Sunday (pos 15)) (M 10 3 0)
    × IsSameDay March Saturday (FirstOnOrAfter Saturday (pos 22)) (M 3 4 6)
    × IsSameDay April Thursday (Last Thursday) (M 4 5 4)
worked_days = (from_first, from_eighth, from_fifteenth, from_twenty_second, last_of_month)

-- rules from before 1800 on are expanded from 1800 on
worked_years : map first_year (pos 2099 ∷ pos 2007 ∷ pos 1800 ∷ pos 1799 ∷ pos 0 ∷ neg_ℤ (pos 44) ∷ [])
    ≡ pos 2099 ∷ pos 2007 ∷ pos 1800 ∷ pos 1800 ∷ pos 1800 ∷ pos 1800 ∷ []
worked_years = refl

-- a line with an offset and rules of its own
abbrev ruled_at : ℤ → Format → ZoneInfo
ruled_at offset format = record { offset = offset; saving = Multiple []; format = format; end_time = None }

-- New York in 2024, 2024-03-10 07:00 and 2024-11-03 06:00 UTC; Lord Howe in 2024, 2024-10-05 15:30 and 2024-04-06 15:00;
-- Moldova in 2024, 2024-03-31 00:00 and 2024-10-27 00:00
worked_changes : (format : Format)
    → start_in (us_rules (ruled_at (negsuc 17999) format) None None) (pos 2024)
    ∷ end_in (us_rules (ruled_at (negsuc 17999) format) None None) (pos 2024)
    ∷ start_in (lord_howe_rules (ruled_at (pos 37800) format) None None) (pos 2024)
    ∷ end_in (lord_howe_rules (ruled_at (pos 37800) format) None None) (pos 2024)
    ∷ start_in (moldova_rules (ruled_at (pos 7200) format) None None) (pos 2024)
    ∷ end_in (moldova_rules (ruled_at (pos 7200) format) None None) (pos 2024) ∷ []
    ≡ pos 1710054000 ∷ pos 1730613600 ∷ pos 1728142200 ∷ pos 1712415600 ∷ pos 1711843200 ∷ pos 1729987200 ∷ []
unfolding
    moment instant_of named_day first_from last_with weekday_of
    is_leap days_in_year days_in_month days_after_zero year_start days_through days_into_year day
worked_changes format = refl

begins : (day (pos 2024) 1 1 ≡ pos 19723) × (day (pos 2025) 1 1 ≡ pos 20089)
unfolding is_leap days_in_year days_in_month days_after_zero year_start days_through days_into_year day
begins = (refl, refl)

-- at -5:00 the year 2024 begins at 2024-01-01 05:00 UTC and ends before 2025-01-01 05:00
worked_first : IsInRuleYears (negsuc 17999) (pos 2024) (pos 2024) (pos 1704085200)
worked_first = record { begun = omega (arith, signed, begins.0); not_over = omega (arith, signed, begins.1) }

worked_last : IsInRuleYears (negsuc 17999) (pos 2024) (pos 2024) (pos 1735707599)
worked_last = record { begun = omega (arith, signed, begins.0); not_over = omega (arith, signed, begins.1) }

worked_before : IsInRuleYears (negsuc 17999) (pos 2024) (pos 2024) (pos 1704085199) → ⊥
worked_before h = absurd (omega (arith, signed, begins.0, h.begun))

worked_after : IsInRuleYears (negsuc 17999) (pos 2024) (pos 2024) (pos 1735707600) → ⊥
worked_after h = absurd (omega (arith, signed, begins.1, h.not_over))

-- midnight and the second before the next are times of day, and no others beside them
worked_times : IsTimeOfDay (pos 0) × IsTimeOfDay (pos 86399)
worked_times = (
  record { least = omega (arith, signed); greatest = omega (arith, signed) },
  record { least = omega (arith, signed); greatest = omega (arith, signed) },
)

worked_no_times : (IsTimeOfDay (negsuc 0) → ⊥) × (IsTimeOfDay (pos 86400) → ⊥)
worked_no_times = (λ h. absurd (omega (arith, signed, h.least)), λ h. absurd (omega (arith, signed, h.greatest)))

-- rules from 2007 on apply to 2007 and to 2099, and to no year before or past these
worked_range : IsRuleYear (pos 2007) (pos 2007) × IsRuleYear (pos 2007) (pos 2099)
worked_range = (
  record { first = omega (arith, signed); last = omega (arith, signed) },
  record { first = omega (arith, signed); last = omega (arith, signed) },
)

worked_no_range : (IsRuleYear (pos 2007) (pos 2006) → ⊥) × (IsRuleYear (pos 1700) (pos 1799) → ⊥) × (IsRuleYear (pos 2007) (pos 2100) → ⊥)
worked_no_range = (
  λ h. absurd (omega (arith, signed, h.first)),
  λ h. absurd (omega (arith, signed, h.first)),
  λ h. absurd (omega (arith, signed, h.last)),
)
