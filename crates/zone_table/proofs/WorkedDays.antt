-- The days that rules and ends name, and the moments of ends, at worked rows.
use Rattle.std.proofs.{Common.{◌≡◌, [], ◌∷◌, map, true, false, Some, None, refl, pos, negsuc, arith}, lemmas.Int.{ints}}
use Rattle.basics.specs.{Days.{is_leap, days_in_year, days_in_month, days_after_zero, year_start, days_through, days_into_year, day, IsDate, IsCountedYear}, DateLaws.{month_of-day, day_of-day}, Dates.{last_with}, Weekdays.{weekday_of}}
use Rattle.zone_table.specs.{Days.{named_day, first_from, is_in_year, has_day_of_month, written, concrete_day}, Ends.{is_dated, is_dated_year, time_type, wall}, Seconds.{seconds_of, with_type}, Weekdays.{weekday_number}, declared.{change.ChangeTime.{ChangeTime}, change.ChangeTime.TheVariants.{UntilYear, UntilMonth, UntilDay, UntilTime}, day.DaySpec.TheVariants.{Ordinal, Last, LastOnOrBefore, FirstOnOrAfter}, month.Month.TheVariants.{January, February, March, April, May, June, October, November, December}, time.TimeSpec.TheVariants.{Hours, HoursMinutes, HoursMinutesSeconds, Zero}, time.TimeType.TheVariants.{Wall, Standard}, weekday.Weekday.TheVariants.{Sunday, Monday, Tuesday, Wednesday, Thursday, Friday, Saturday}, year.Year.TheVariants.{Minimum, Maximum, Number}}}

-- the days of the week from Sunday, 2024-07-14, on
a_week : map (λ w. first_from (weekday_number w) (day (pos 2024) 7 14))
    (Sunday ∷ Monday ∷ Tuesday ∷ Wednesday ∷ Thursday ∷ Friday ∷ Saturday ∷ [])
    ≡ map (day (pos 2024) 7) (14 ∷ 15 ∷ 16 ∷ 17 ∷ 18 ∷ 19 ∷ 20 ∷ [])
unfolding
    first_from last_with weekday_of
    is_leap days_in_year days_in_month days_after_zero year_start days_through days_into_year day
a_week = refl

-- the last Monday of February 2016
last_monday : named_day (Last Monday) (pos 2016) February ≡ day (pos 2016) 2 29
unfolding
    named_day first_from last_with weekday_of
    is_leap days_in_year days_in_month days_after_zero year_start days_through days_into_year day
last_monday = refl

-- the first Sunday from 25 April 1932 on, and from the 1st of October 2000, a Sunday
first_sundays : named_day (FirstOnOrAfter Sunday (pos 25)) (pos 1932) April
    ∷ named_day (FirstOnOrAfter Sunday (pos 1)) (pos 2000) October ∷ []
    ≡ day (pos 1932) 5 1 ∷ day (pos 2000) 10 1 ∷ []
unfolding
    named_day first_from last_with weekday_of
    is_leap days_in_year days_in_month days_after_zero year_start days_through days_into_year day
first_sundays = refl

-- the last Friday up to 1 April 2012, and up to 30 March 2012, a Friday
last_fridays : named_day (LastOnOrBefore Friday (pos 1)) (pos 2012) April ∷ named_day (LastOnOrBefore Friday (pos 30)) (pos 2012) March ∷ []
    ≡ day (pos 2012) 3 30 ∷ day (pos 2012) 3 30 ∷ []
unfolding
    named_day first_from last_with weekday_of
    is_leap days_in_year days_in_month days_after_zero year_start days_through days_into_year day
last_fridays = refl

-- a number past the month's end counts on
past_the_end : named_day (Ordinal (pos 31)) (pos 2023) February ≡ day (pos 2023) 3 3
unfolding named_day is_leap days_in_year days_in_month days_after_zero year_start days_through days_into_year day
past_the_end = refl

-- the pair of an ordinal is as written; a weekday on the other side of the year's end has none
concrete_days : concrete_day (Ordinal (pos 31)) (pos 2023) February ∷ concrete_day (LastOnOrBefore Friday (pos 1)) (pos 2000) January
    ∷ concrete_day (FirstOnOrAfter Monday (pos 31)) (pos 2024) December ∷ []
    ≡ Some (February, pos 31) ∷ None ∷ None ∷ []
unfolding
    concrete_day written named_day first_from last_with weekday_of is_in_year
    is_leap days_in_year days_in_month days_after_zero year_start days_through days_into_year day
concrete_days = refl

-- the first Sunday from 25 April 1932 on, by its month and day
concrete_sunday : concrete_day (FirstOnOrAfter Sunday (pos 25)) (pos 1932) April ≡ Some (May, pos 1)
unfolding
    concrete_day written named_day first_from last_with weekday_of is_in_year
    is_leap days_in_year days_in_month days_after_zero year_start days_through days_into_year day
concrete_sunday =
    let counted : IsCountedYear (pos 1932) = record { first = omega (arith, ints); last = omega (arith, ints) } in
    let date : IsDate (pos 1932) 5 1 =
    record { first_month = omega arith; last_month = omega arith; first_day = omega arith; last_day = omega arith } in
    rw (month_of-day (pos 1932) 5 1 counted date, day_of-day (pos 1932) 5 1 counted date) refl

days_of_months : map has_day_of_month (Ordinal (pos 0) ∷ Ordinal (pos 1) ∷ Ordinal (pos 31) ∷ Ordinal (pos 32) ∷ Last Sunday
    ∷ LastOnOrBefore Sunday (pos 0) ∷ LastOnOrBefore Sunday (pos 31) ∷ FirstOnOrAfter Sunday (pos 32) ∷ FirstOnOrAfter Sunday (pos 1) ∷ [])
    ≡ false ∷ true ∷ true ∷ false ∷ true ∷ false ∷ true ∷ false ∷ true ∷ []
days_of_months = refl

-- the first and the last day of 2024, and those beside them
days_of_2024 : map (λ k. is_in_year k (pos 2024)) (day (pos 2023) 12 31 ∷ day (pos 2024) 1 1 ∷ day (pos 2024) 12 31
    ∷ day (pos 2025) 1 1 ∷ [])
    ≡ false ∷ true ∷ true ∷ false ∷ []
unfolding is_in_year is_leap days_in_year days_in_month days_after_zero year_start days_through days_into_year day
days_of_2024 = refl

dated_years : map is_dated_year (Number (negsuc 0) ∷ Number (pos 0) ∷ Number (pos 1) ∷ Number (pos 9999) ∷ Number (pos 10000)
    ∷ Minimum ∷ Maximum ∷ [])
    ≡ false ∷ false ∷ true ∷ true ∷ false ∷ false ∷ false ∷ []
dated_years = refl

-- ends in years that have days
dated_ends : map is_dated (UntilYear (Number (pos 1)) ∷ UntilMonth (Number (pos 9999)) December
    ∷ UntilDay (Number (pos 2024)) December (Ordinal (pos 31)) ∷ UntilDay (Number (pos 2023)) February (Ordinal (pos 31)) ∷ [])
    ≡ true ∷ true ∷ true ∷ true ∷ []
unfolding named_day is_in_year is_leap days_in_year days_in_month days_after_zero year_start days_through days_into_year day
dated_ends = refl

-- a year out of range, a day number out of range, and days in the year before and after
other_ends : map is_dated (UntilYear (Number (pos 0)) ∷ UntilYear (Number (pos 10000)) ∷ UntilYear Maximum
    ∷ UntilDay (Number (pos 2024)) March (Ordinal (pos 32))
    ∷ UntilDay (Number (pos 2000)) January (LastOnOrBefore Friday (pos 1))
    ∷ UntilDay (Number (pos 2024)) December (FirstOnOrAfter Monday (pos 31)) ∷ [])
    ≡ false ∷ false ∷ false ∷ false ∷ false ∷ false ∷ []
unfolding
    named_day first_from last_with weekday_of is_in_year
    is_leap days_in_year days_in_month days_after_zero year_start days_through days_into_year day
other_ends = refl

seconds : map seconds_of (Hours (negsuc 127) ∷ HoursMinutes (pos 1) (pos 99)
    ∷ HoursMinutesSeconds (pos 0) (negsuc 13) (negsuc 43) ∷ Zero ∷ [])
    ≡ negsuc 460799 ∷ pos 9540 ∷ negsuc 883 ∷ pos 0 ∷ []
seconds = refl

abbrev until_two : ChangeTime
until_two = UntilTime (Number (pos 2000)) February (Last Sunday) (with_type (HoursMinutes (pos 2) (pos 0)) Standard)

clocks : map time_type (UntilYear (Number (pos 2000)) ∷ UntilDay (Number (pos 2000)) June (Ordinal (pos 1)) ∷ until_two ∷ [])
    ≡ Wall ∷ Wall ∷ Standard ∷ []
clocks = refl

-- 1900-01-01, 2024-11-01, 2024-11-03, and 2000-02-27 2:00
ends : map wall (UntilYear (Number (pos 1900)) ∷ UntilMonth (Number (pos 2024)) November
    ∷ UntilDay (Number (pos 2024)) November (FirstOnOrAfter Sunday (pos 1)) ∷ until_two ∷ [])
    ≡ negsuc 2208988799 ∷ pos 1730419200 ∷ pos 1730592000 ∷ pos 951616800 ∷ []
unfolding
    named_day first_from last_with weekday_of
    is_leap days_in_year days_in_month days_after_zero year_start days_through days_into_year day
ends = refl
