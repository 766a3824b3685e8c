-- The ends of zone lines, as moments.
use Rattle.std.specs.Prelude.{ℤ, pos, ◌+ℤ◌, ◌*ℤ◌, int_le, Bool, false, ◌&&◌}
use Rattle.zone_table.specs.{Days.{named_day, has_day_of_month, is_in_year}, Seconds.{seconds_of}, declared.change.ChangeTime.{ChangeTime}, declared.change.ChangeTime.TheVariants.{UntilYear, UntilMonth, UntilDay, UntilTime}, declared.day.DaySpec.{DaySpec}, declared.{day.DaySpec.TheVariants.{Ordinal}, month.Month.{Month}, month.Month.TheVariants.{January}, time.TimeType.{TimeType}, time.TimeType.TheVariants.{Wall}, year.Year.{Year}, year.Year.TheVariants.{Number}}}

abbrev pub end_year : ChangeTime → Year
end_year (UntilYear y) = y
end_year (UntilMonth y m) = y
end_year (UntilDay y m d) = y
end_year (UntilTime y m d t) = y

-- a missing month is January
abbrev pub end_month : ChangeTime → Month
end_month (UntilYear y) = January
end_month (UntilMonth y m) = m
end_month (UntilDay y m d) = m
end_month (UntilTime y m d t) = m

-- a missing day is the first
abbrev pub end_day : ChangeTime → DaySpec
end_day (UntilYear y) = Ordinal (pos 1)
end_day (UntilMonth y m) = Ordinal (pos 1)
end_day (UntilDay y m d) = d
end_day (UntilTime y m d t) = d

-- a missing time is 0:00; the clock of a time has no part in it
abbrev pub end_seconds : ChangeTime → ℤ
end_seconds (UntilTime y m d t) = seconds_of t.0
end_seconds _ = pos 0

-- the clock of the time; where there is no time, the wall's
abbrev pub time_type : ChangeTime → TimeType
time_type (UntilTime y m d t) = t.1
time_type _ = Wall

-- the number of a year that is one
abbrev pub year_number : Year → ℤ
year_number (Number n) = n
year_number _ = pos 0

abbrev pub is_dated_year : Year → Bool
is_dated_year (Number n) = int_le (pos 1) n && int_le n (pos 9999)
is_dated_year _ = false

-- the end's day, by its day number
abbrev pub day_of_end : ChangeTime → ℤ
day_of_end end = named_day (end_day end) (year_number (end_year end)) (end_month end)

-- the year is a number from 1 to 9999, a day number is from 1 to 31, and the day lies in the year
abbrev pub is_dated : ChangeTime → Bool
is_dated end = is_dated_year (end_year end)
    && has_day_of_month (end_day end)
    && is_in_year (day_of_end end) (year_number (end_year end))

-- the seconds from 1970-01-01 00:00 to the written date and time
abbrev pub wall : ChangeTime → ℤ
wall end = pos 86400 *ℤ day_of_end end +ℤ end_seconds end
