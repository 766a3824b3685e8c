-- Local times by their parts.
use Rattle.std.specs.Prelude.{ℕ, ℤ, pos, ◌+ℤ◌, ◌*ℤ◌}
use Rattle.basics.specs.{Days.{day, IsDate}, Dates.{year_of, month_of, day_of}}
use Rattle.civil_base.specs.{Clock.{nanos_per_day, hour_of, minute_of, second_of, nanosecond_of, time_at, IsClockTime}, Ranges.{IsYear}}
use Rattle.sefunjaro.specs.declared.clock.Clock.{Clock}

-- what is shown on a day at a time of day
abbrev pub clock_at : ℤ → ℕ → Clock
clock_at date time = record {
  year = year_of date;
  month = month_of date;
  day = day_of date;
  hour = hour_of time;
  minute = minute_of time;
  second = second_of time;
  nanosecond = nanosecond_of time;
}

-- a calendar of the years -9999 to 9999 and a clock show these parts
pub record IsClock (clock : Clock) : Type 0 where
  pub year : IsYear clock.year
  pub date : IsDate clock.year clock.month clock.day
  pub time : IsClockTime clock.hour clock.minute clock.second clock.nanosecond

-- the local time that is shown so
abbrev pub clock_shown : Clock → ℤ
clock_shown clock =
    day clock.year clock.month clock.day *ℤ pos nanos_per_day +ℤ pos (time_at clock.hour clock.minute clock.second clock.nanosecond)
