-- The definitions of fields at worked rows.
use Rattle.std.{proofs.Common.{◌≡◌, ℕ, List, [], ◌∷◌, map, true, false, Option, Some, None, Ok, Err, refl, pos, negsuc}, specs.Prelude.{codes}}
use Rattle.zone_table.specs.{Faults.{refused}, Months.{month_named}, Seconds.{with_type}, Values.{no_saving, multiple}, Weekdays.{weekday_named}, Years.{year_named}, declared.change.ChangeTime.TheVariants.{UntilYear, UntilMonth, UntilDay, UntilTime}, declared.{day.DaySpec.TheVariants.{Ordinal, Last, LastOnOrBefore, FirstOnOrAfter}, fault.FaultKind.TheVariants.{FailedWeekdayParse, InvalidLineType, TypeColumnContainedNonHyphen, InvalidDaySpec}, month.Month.TheVariants.{September}, time.TimeSpec.TheVariants.{Hours, HoursMinutes, HoursMinutesSeconds, Zero}, time.TimeType.TheVariants.{Wall, Standard, UTC}, weekday.Weekday.TheVariants.{Sunday, Friday}}, declared.year.Year.TheVariants.{Maximum, Number}}
use Rattle.basics.specs.Numbers.{signed_in}
use Rattle.zone_line.specs.{Clocks.{ClockTexts}, Columns.{InfoTexts}, DayColumns.{DayTexts}, Digits.{two_digits}, Fields.{to_field, type_field, letters_of, day_of_month, day_field, sided_day, last_weekday, wall_field, is_ruleset_name}}
use Rattle.zone_line.specs.{LineValues.{saving_field, until, some_end, end_of}, Times.{no_time, hours_alone, clock_time, clock_type, if_wall, time_of}}

-- the last is U+0661, the digit one of another script
digits : map two_digits (codes "7" ∷ codes "07" ∷ codes "99" ∷ codes "" ∷ codes "123" ∷ codes "1a" ∷ (217 ∷ 161 ∷ []) ∷ [])
    ≡ Some 7 ∷ Some 7 ∷ Some 99 ∷ None ∷ None ∷ None ∷ None ∷ []
unfolding two_digits
digits = refl

hyphens : map no_time (codes "-" ∷ codes "" ∷ codes "0" ∷ []) ≡ Some (with_type Zero Wall) ∷ None ∷ None ∷ []
hyphens = refl

hours : map hours_alone (codes "2" ∷ codes "-128" ∷ codes "127" ∷ [])
    ≡ Some (with_type (Hours (pos 2)) Wall) ∷ Some (with_type (Hours (negsuc 127)) Wall) ∷ Some (with_type (Hours (pos 127)) Wall) ∷ []
unfolding signed_in
hours = refl

no_hours : map hours_alone (codes "" ∷ codes "+1" ∷ codes "--1" ∷ codes "1-2" ∷ codes "200" ∷ codes "1:00" ∷ [])
    ≡ None ∷ None ∷ None ∷ None ∷ None ∷ None ∷ []
unfolding signed_in
no_hours = refl

abbrev clock : List ℕ → List ℕ → List ℕ → Option (List ℕ) → ClockTexts
clock sign hour minute second = record { sign = sign; hour = hour; minute = minute; second = second; flag = None }

-- the sign holds for every part
clocks : map clock_time (clock (codes "") (codes "2") (codes "00") None ∷ clock (codes "-") (codes "3") (codes "30") None
    ∷ clock (codes "-") (codes "0") (codes "14") (Some (codes "44")) ∷ clock (codes "") (codes "24") (codes "99") (Some (codes "99")) ∷ [])
    ≡ Some (HoursMinutes (pos 2) (pos 0)) ∷ Some (HoursMinutes (negsuc 2) (negsuc 29))
    ∷ Some (HoursMinutesSeconds (pos 0) (negsuc 13) (negsuc 43))
    ∷ Some (HoursMinutesSeconds (pos 24) (pos 99) (pos 99)) ∷ []
unfolding clock_time two_digits
clocks = refl

marks : map clock_type (None ∷ Some (codes "w") ∷ Some (codes "s") ∷ Some (codes "u") ∷ Some (codes "g") ∷ Some (codes "z") ∷ [])
    ≡ Wall ∷ Wall ∷ Standard ∷ UTC ∷ UTC ∷ UTC ∷ []
marks = refl

walls : map if_wall (with_type Zero Wall ∷ with_type Zero Standard ∷ with_type Zero UTC ∷ []) ≡ Some Zero ∷ None ∷ None ∷ []
walls = refl

amounts : map wall_field (codes "-" ∷ codes "-3" ∷ []) ≡ Ok Zero ∷ Ok (Hours (negsuc 2)) ∷ []
unfolding wall_field time_of signed_in
amounts = refl

last_years : map to_field (codes "only" ∷ codes "2007" ∷ codes "max" ∷ [])
    ≡ Ok None ∷ Ok (Some (Number (pos 2007))) ∷ Ok (Some Maximum) ∷ []
unfolding to_field year_named signed_in
last_years = refl

-- the second is U+2010
types : map type_field (codes "-" ∷ (226 ∷ 128 ∷ 144 ∷ []) ∷ codes "--" ∷ [])
    ≡ Ok tt ∷ Ok tt ∷ Err (refused TypeColumnContainedNonHyphen (codes "--")) ∷ []
types = refl

letters : map letters_of (codes "-" ∷ codes "S" ∷ codes "--" ∷ []) ≡ None ∷ Some (codes "S") ∷ Some (codes "--") ∷ []
letters = refl

numbers_of_days : map day_of_month (codes "1" ∷ codes "007" ∷ codes "31" ∷ codes "0" ∷ codes "32" ∷ codes "+1" ∷ codes "128" ∷ [])
    ≡ Some (pos 1) ∷ Some (pos 7) ∷ Some (pos 31) ∷ None ∷ None ∷ None ∷ None ∷ []
unfolding signed_in
numbers_of_days = refl

days : map day_field (codes "7" ∷ codes "lastSun" ∷ codes "lastfriday" ∷ codes "32" ∷ codes "last" ∷ codes "lastX" ∷ [])
    ≡ Ok (Ordinal (pos 7)) ∷ Ok (Last Sunday) ∷ Ok (Last Friday) ∷ Err (refused InvalidDaySpec (codes "32"))
    ∷ Err (refused FailedWeekdayParse (codes "")) ∷ Err (refused FailedWeekdayParse (codes "x")) ∷ []
unfolding day_field last_weekday weekday_named signed_in
days = refl

abbrev sided : List ℕ → List ℕ → List ℕ → DayTexts
sided weekday sign day = record { weekday = weekday; sign = sign; day = day }

sided_days : map (sided_day (codes "the day"))
    (sided (codes "Sun") (codes ">=") (codes "8") ∷ sided (codes "Fri") (codes "<=") (codes "1")
    ∷ sided (codes "Sun") (codes "<=") (codes "32")
    ∷ sided (codes "Xyz") (codes ">=") (codes "40") ∷ [])
    ≡ Ok (FirstOnOrAfter Sunday (pos 8)) ∷ Ok (LastOnOrBefore Friday (pos 1)) ∷ Err (refused InvalidDaySpec (codes "the day"))
    ∷ Err (refused FailedWeekdayParse (codes "xyz")) ∷ []
unfolding sided_day weekday_named signed_in
sided_days = refl

rulesets : map is_ruleset_name (codes "US" ∷ codes "C-Eur" ∷ codes "a_b" ∷ codes "1:00" ∷ codes "R1" ∷ [])
    ≡ true ∷ true ∷ true ∷ false ∷ false ∷ []
rulesets = refl

savings : map saving_field (codes "-" ∷ codes "US" ∷ codes "--" ∷ [])
    ≡ Ok no_saving ∷ Ok (multiple (codes "US")) ∷ Ok (multiple (codes "--")) ∷ []
unfolding saving_field
savings = refl

-- the columns after the first that is missing are not read
ends : until (codes "1991") None (Some (codes "29")) (Some (codes "2")) ∷ until (codes "1991") (Some (codes "Sep")) None (Some (codes "2"))
    ∷ until (codes "1991") (Some (codes "Sep")) (Some (codes "29")) None
    ∷ until (codes "1991") (Some (codes "Sep")) (Some (codes "29")) (Some (codes "2")) ∷ []
    ≡ Ok (UntilYear (Number (pos 1991))) ∷ Ok (UntilMonth (Number (pos 1991)) September)
    ∷ Ok (UntilDay (Number (pos 1991)) September (Ordinal (pos 29)))
    ∷ Ok (UntilTime (Number (pos 1991)) September (Ordinal (pos 29)) (with_type (Hours (pos 2)) Wall)) ∷ []
unfolding until year_named month_named day_field time_of signed_in
ends = refl

abbrev ended : Option (List ℕ) → Option (List ℕ) → Option (List ℕ) → Option (List ℕ) → InfoTexts
ended year month day time = record {
  gmtoff = codes "0";
  rules = codes "-";
  format = codes "A";
  year = year;
  month = month;
  day = day;
  time = time;
}

-- an end without a year, by each of its columns alone
yearless_ends : map (end_of (codes "the line"))
    (ended None None None None ∷ ended None (Some (codes "Sep")) None None ∷ ended None None (Some (codes "29")) None
    ∷ ended None None None (Some (codes "2")) ∷ [])
    ≡ Ok None ∷ Err (refused InvalidLineType (codes "the line")) ∷ Err (refused InvalidLineType (codes "the line"))
    ∷ Err (refused InvalidLineType (codes "the line")) ∷ []
unfolding end_of
yearless_ends = refl

an_end : end_of (codes "the line") (ended (Some (codes "1991")) None None None) ≡ Ok (Some (UntilYear (Number (pos 1991))))
unfolding end_of some_end until year_named signed_in
an_end = refl
