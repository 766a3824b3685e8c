-- Plain texts at worked rows.
use Rattle.std.{proofs.Common.{◌≡◌, [], ◌∷◌, map, Some, None, refl, pos, negsuc}, specs.Prelude.{codes}, specs.Fmt.{digits}}
use Rattle.zone_table.specs.{Months.{month_name}, Seconds.{with_type}, Values.{no_saving, one_off, multiple, InfoValue, space, zone, continuation, rule, link}, Weekdays.{weekday_name}, declared.change.ChangeTime.TheVariants.{UntilYear, UntilMonth, UntilDay, UntilTime}, declared.{day.DaySpec.TheVariants.{Ordinal, Last, LastOnOrBefore, FirstOnOrAfter}, month.Month.TheVariants.{January, February, March, April, May, June, July, August, September, October, November, December}, time.TimeSpec.TheVariants.{Hours, HoursMinutes, HoursMinutesSeconds, Zero}, time.TimeType.TheVariants.{Standard, UTC}, weekday.Weekday.TheVariants.{Sunday, Monday, Tuesday, Wednesday, Thursday, Friday, Saturday}}, declared.year.Year.TheVariants.{Minimum, Maximum, Number}}
use Rattle.zone_plain_lines.specs.PlainTexts.{clock_text, time_text, month_text, weekday_text, day_text, year_text, to_text, saving_text, years_text, moment_text, rule_text, end_text, stretch_text, info_text, plain_text}

times : map time_text (Hours (pos 0) ∷ HoursMinutes (pos 2) (pos 5) ∷ HoursMinutes (pos 0) (negsuc 29) ∷ HoursMinutesSeconds (pos 23) (pos 0) (pos 9)
    ∷ HoursMinutesSeconds (negsuc 11) (negsuc 58) (negsuc 0) ∷ Zero ∷ [])
    ≡ codes "0" ∷ codes "2:05" ∷ codes "-0:30" ∷ codes "23:00:09" ∷ codes "-12:59:01" ∷ codes "-" ∷ []
unfolding time_text clock_text digits
times = refl

days : map day_text (Ordinal (pos 14) ∷ Last Sunday ∷ LastOnOrBefore Sunday (pos 25) ∷ FirstOnOrAfter Sunday (pos 8) ∷ [])
    ≡ codes "14" ∷ codes "lastSun" ∷ codes "Sun<=25" ∷ codes "Sun>=8" ∷ []
unfolding day_text digits weekday_name
days = refl

months : map month_text (January ∷ February ∷ March ∷ April ∷ May ∷ June ∷ July ∷ August ∷ September ∷ October ∷ November ∷ December ∷ [])
    ≡ codes "Jan" ∷ codes "Feb" ∷ codes "Mar" ∷ codes "Apr" ∷ codes "May" ∷ codes "Jun" ∷ codes "Jul" ∷ codes "Aug" ∷ codes "Sep" ∷ codes "Oct" ∷ codes "Nov"
    ∷ codes "Dec" ∷ []
unfolding month_name
months = refl

weekdays : map weekday_text (Sunday ∷ Monday ∷ Tuesday ∷ Wednesday ∷ Thursday ∷ Friday ∷ Saturday ∷ [])
    ≡ codes "Sun" ∷ codes "Mon" ∷ codes "Tue" ∷ codes "Wed" ∷ codes "Thu" ∷ codes "Fri" ∷ codes "Sat" ∷ []
unfolding weekday_name
weekdays = refl

years : map to_text (Some Minimum ∷ Some Maximum ∷ Some (Number (pos 1916)) ∷ None ∷ []) ≡ codes "min" ∷ codes "max" ∷ codes "1916" ∷ codes "only" ∷ []
unfolding to_text year_text digits
years = refl

a_rule : plain_text (rule (record {
  name = codes "d";
  from_year = Number (pos 1916);
  to_year = None;
  month = June;
  day = Ordinal (pos 14);
  time = with_type (HoursMinutes (pos 23) (pos 0)) Standard;
  time_to_add = HoursMinutes (pos 1) (pos 0);
  letters = Some (codes "S");
})) ≡ codes "Rule d 1916 only - Jun 14 23:00s 1:00 S"
unfolding plain_text rule_text years_text moment_text to_text year_text day_text time_text clock_text digits weekday_name month_name
a_rule = refl

abbrev info : InfoValue
info = record {
  utc_offset = HoursMinutes (negsuc 2) (pos 0);
  saving = multiple (codes "b");
  format = codes "A%sB";
  time = Some (UntilTime (Number (pos 1999)) October (Last Friday) (with_type (HoursMinutes (pos 2) (pos 0)) UTC));
}

lines : map plain_text (zone (codes "A/B") info ∷ continuation info ∷ link (codes "A") (codes "C") ∷ space ∷ [])
    ≡ codes "Zone A/B -3:00 b A%sB 1999 Oct lastFri 2:00u" ∷ codes " -3:00 b A%sB 1999 Oct lastFri 2:00u" ∷ codes "Link A C" ∷ codes "" ∷ []
unfolding plain_text info_text stretch_text saving_text end_text moment_text year_text day_text time_text clock_text digits weekday_name month_name
lines = refl

ends : map end_text (UntilYear (Number (pos 1999)) ∷ UntilMonth (Number (pos 1999)) May ∷ UntilDay (Number (pos 1999)) May (Ordinal (pos 3)) ∷ [])
    ≡ codes " 1999" ∷ codes " 1999 May" ∷ codes " 1999 May 3" ∷ []
unfolding end_text year_text day_text digits weekday_name month_name
ends = refl

amounts : map saving_text (no_saving ∷ one_off (HoursMinutes (pos 1) (pos 30)) ∷ multiple (codes "EU") ∷ []) ≡ codes "-" ∷ codes "1:30" ∷ codes "EU" ∷ []
unfolding saving_text time_text clock_text digits
amounts = refl
