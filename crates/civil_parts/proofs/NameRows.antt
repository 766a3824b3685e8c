-- The numbers and the names of months and weekdays, and which days lie how far apart.
use Rattle.std.{proofs.Common.{◌≡◌, refl, List, [], ◌∷◌, ◌++◌, map}, specs.Prelude.{codes}, specs.List.{flat_map}}
use Rattle.civil_parts.specs.declared.{month.Month.{Month}, month.Month.TheVariants.{January, February, March, April, May, June, July, August, September, October, November, December}, weekday.Weekday.{Weekday}}
use Rattle.civil_parts.specs.{declared.weekday.Weekday.TheVariants.{Monday, Tuesday, Wednesday, Thursday, Friday, Saturday, Sunday}, Months.{month_number, month_name, IsMonthBefore}, Weekdays.{weekday_number, weekday_name, days_from_monday, IsDaysBefore}}

abbrev months : List Month
months = January ∷ February ∷ March ∷ April ∷ May ∷ June ∷ July ∷ August ∷ September ∷ October ∷ November ∷ December ∷ []

abbrev weekdays : List Weekday
weekdays = Monday ∷ Tuesday ∷ Wednesday ∷ Thursday ∷ Friday ∷ Saturday ∷ Sunday ∷ []

numbered_months : map month_number months ≡ 1 ∷ 2 ∷ 3 ∷ 4 ∷ 5 ∷ 6 ∷ 7 ∷ 8 ∷ 9 ∷ 10 ∷ 11 ∷ 12 ∷ []
numbered_months = refl

named_months : flat_map (λ month. month_name month ++ 32 ∷ []) months
    ≡ codes "January February March April May June July August September October November December "
named_months = refl

months_in_turn : IsMonthBefore January February × IsMonthBefore August September × IsMonthBefore December January
months_in_turn = (refl, refl, refl)

numbered_weekdays : map weekday_number weekdays ≡ 1 ∷ 2 ∷ 3 ∷ 4 ∷ 5 ∷ 6 ∷ 0 ∷ []
numbered_weekdays = refl

counted_weekdays : map days_from_monday weekdays ≡ 0 ∷ 1 ∷ 2 ∷ 3 ∷ 4 ∷ 5 ∷ 6 ∷ []
counted_weekdays = refl

named_weekdays : flat_map (λ day. weekday_name day ++ 32 ∷ []) weekdays
    ≡ codes "Monday Tuesday Wednesday Thursday Friday Saturday Sunday "
named_weekdays = refl

-- 255 days are 36 weeks and three days
weekdays_apart : IsDaysBefore 3 Monday Thursday × IsDaysBefore 255 Sunday Wednesday × IsDaysBefore 255 Thursday Sunday
weekdays_apart = (refl, refl, refl)
