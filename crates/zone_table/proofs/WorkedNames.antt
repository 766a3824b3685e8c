-- The names of months, weekdays and years, at worked rows.
use Rattle.std.{proofs.Common.{◌≡◌, ℕ, List, [], ◌∷◌, map, Some, None, Err, refl, pos, negsuc}, specs.Prelude.{codes}}
use Rattle.zone_table.specs.{Faults.{refused}, Months.{month_number, month_numbered, month_named, month_field}, Weekdays.{weekday_number, weekday_named, weekday_field}, Years.{year_named, year_field}, declared.{fault.FaultKind.TheVariants.{FailedYearParse, FailedMonthParse, FailedWeekdayParse}, month.Month.{Month}, month.Month.TheVariants.{January, February, March, April, May, June, July, August, September, October, November, December}, weekday.Weekday.{Weekday}, weekday.Weekday.TheVariants.{Sunday, Monday, Tuesday, Wednesday, Thursday, Friday, Saturday}, year.Year.TheVariants.{Minimum, Maximum, Number}}}
use Rattle.basics.specs.Numbers.{signed_in}

abbrev months : List Month
months =
    January ∷ February ∷ March ∷ April ∷ May ∷ June ∷ July ∷ August ∷ September ∷ October ∷ November ∷ December ∷ []

abbrev month_names : List (List ℕ)
month_names =
    codes "January" ∷ codes "February" ∷ codes "March" ∷ codes "April" ∷ codes "May" ∷ codes "June" ∷ codes "July"
    ∷ codes "August" ∷ codes "September" ∷ codes "October" ∷ codes "November" ∷ codes "December" ∷ []

abbrev short_month_names : List (List ℕ)
short_month_names =
    codes "Jan" ∷ codes "Feb" ∷ codes "Mar" ∷ codes "Apr" ∷ codes "May" ∷ codes "Jun" ∷ codes "Jul" ∷ codes "Aug"
    ∷ codes "Sep" ∷ codes "Oct" ∷ codes "Nov" ∷ codes "Dec" ∷ []

-- in full and in short, of other lengths, and in letters of either case
named_months : (map month_named month_names ≡ map Some months) × (map month_named short_month_names ≡ map Some months)
    × (map month_named (codes "" ∷ codes "Ja" ∷ codes "Sept" ∷ codes "Febuary" ∷ codes "dECEMBER" ∷ codes "JUL" ∷ [])
    ≡ None ∷ None ∷ None ∷ None ∷ Some December ∷ Some July ∷ [])
unfolding month_named
named_months = (refl, refl, refl)

numbers_of_months : map month_number months ≡ 1 ∷ 2 ∷ 3 ∷ 4 ∷ 5 ∷ 6 ∷ 7 ∷ 8 ∷ 9 ∷ 10 ∷ 11 ∷ 12 ∷ []
numbers_of_months = refl

months_of_numbers : map month_numbered (map month_number months) ≡ months
months_of_numbers = refl

no_month : month_field (codes "Febtober") ≡ Err (refused FailedMonthParse (codes "febtober"))
unfolding month_named
no_month = refl

abbrev weekdays : List Weekday
weekdays = Sunday ∷ Monday ∷ Tuesday ∷ Wednesday ∷ Thursday ∷ Friday ∷ Saturday ∷ []

abbrev weekday_names : List (List ℕ)
weekday_names =
    codes "Sunday" ∷ codes "Monday" ∷ codes "Tuesday" ∷ codes "Wednesday" ∷ codes "Thursday" ∷ codes "Friday" ∷ codes "Saturday" ∷ []

abbrev short_weekday_names : List (List ℕ)
short_weekday_names = codes "Sun" ∷ codes "Mon" ∷ codes "Tue" ∷ codes "Wed" ∷ codes "Thu" ∷ codes "Fri" ∷ codes "Sat" ∷ []

named_weekdays : (map weekday_named weekday_names ≡ map Some weekdays) × (map weekday_named short_weekday_names ≡ map Some weekdays)
    × (map weekday_named (codes "" ∷ codes "Su" ∷ codes "Thur" ∷ codes "Tus" ∷ codes "sATURDAY" ∷ codes "WED" ∷ [])
    ≡ None ∷ None ∷ None ∷ None ∷ Some Saturday ∷ Some Wednesday ∷ [])
unfolding weekday_named
named_weekdays = (refl, refl, refl)

numbers_of_weekdays : map weekday_number weekdays ≡ 0 ∷ 1 ∷ 2 ∷ 3 ∷ 4 ∷ 5 ∷ 6 ∷ []
numbers_of_weekdays = refl

no_weekday : weekday_field (codes "XyZ") ≡ Err (refused FailedWeekdayParse (codes "xyz"))
unfolding weekday_named
no_weekday = refl

ends_of_years : map year_named (codes "min" ∷ codes "Minimum" ∷ codes "MAX" ∷ codes "maximum" ∷ [])
    ≡ Some Minimum ∷ Some Minimum ∷ Some Maximum ∷ Some Maximum ∷ []
unfolding year_named
ends_of_years = refl

numbers_of_years : map year_named (codes "2007" ∷ codes "+0044" ∷ codes "-1" ∷ codes "9223372036854775807" ∷ [])
    ≡ Some (Number (pos 2007)) ∷ Some (Number (pos 44)) ∷ Some (Number (negsuc 0)) ∷ Some (Number (pos 9223372036854775807)) ∷ []
unfolding year_named signed_in
numbers_of_years = refl

other_years : map year_named (codes "" ∷ codes "minimun" ∷ codes "only" ∷ codes "0x7" ∷ codes "--1" ∷ codes "9223372036854775808" ∷ [])
    ≡ None ∷ None ∷ None ∷ None ∷ None ∷ None ∷ []
unfolding year_named signed_in
other_years = refl

no_year : year_field (codes "0X7") ≡ Err (refused FailedYearParse (codes "0X7"))
unfolding year_named signed_in
no_year = refl
