-- The days of the week, by their names.
use Rattle.std.specs.Prelude.{ℕ, List, [], ◌∷◌, Option, ok_or, Result, codes}
use Rattle.zone_table.specs.{Faults.{Fault, refused}, declared.fault.FaultKind.TheVariants.{FailedWeekdayParse}, Names.{named, name_at, lower}, declared.weekday.Weekday.{Weekday}, declared.weekday.Weekday.TheVariants.{Sunday, Monday, Tuesday, Wednesday, Thursday, Friday, Saturday}}

-- Sunday is 0
abbrev pub weekday_number : Weekday → ℕ
weekday_number Sunday = 0
weekday_number Monday = 1
weekday_number Tuesday = 2
weekday_number Wednesday = 3
weekday_number Thursday = 4
weekday_number Friday = 5
weekday_number Saturday = 6

-- the weekdays by their English names, in order
abbrev pub named_weekdays : List (List ℕ × Weekday)
named_weekdays =
    (codes "Sunday", Sunday) ∷ (codes "Monday", Monday) ∷ (codes "Tuesday", Tuesday) ∷ (codes "Wednesday", Wednesday)
    ∷ (codes "Thursday", Thursday) ∷ (codes "Friday", Friday) ∷ (codes "Saturday", Saturday) ∷ []

unfoldable pub weekday_name : Weekday → List ℕ
weekday_name weekday = name_at named_weekdays (weekday_number weekday)

-- the weekday of that English name
unfoldable pub weekday_named : List ℕ → Option Weekday
weekday_named text = named named_weekdays text

-- the fault holds the text in ASCII lower case
abbrev pub weekday_field : List ℕ → Result Weekday Fault
weekday_field text = ok_or (weekday_named text) (refused FailedWeekdayParse (lower text))
