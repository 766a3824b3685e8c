-- The texts of local times and of instants with an offset.
use Rattle.std.specs.{Prelude.{ℕ, ◌+◌, ◌/◌, ◌%◌, List, [], ◌∷◌, ◌++◌, if◌then◌else◌, ℤ, pos, int_lt, unsigned_abs}, Int.{int_div_euclid, int_rem_euclid}}
use Rattle.basics.specs.Dates.{year_of, month_of, day_of}
use Rattle.civil_base.specs.{Instants.{local_at}, Clock.{nanos_per_day, hour_of, minute_of, second_of, nanosecond_of}}

-- the decimal digit of n at the place of that power of ten
abbrev pub digit : ℕ → ℕ → ℕ
digit n place = 48 + n / place % 10

abbrev pub two_digits : ℕ → List ℕ
two_digits n = digit n 10 ∷ digit n 1 ∷ []

abbrev pub four_digits : ℕ → List ℕ
four_digits n = digit n 1000 ∷ digit n 100 ∷ digit n 10 ∷ digit n 1 ∷ []

abbrev pub nine_digits : ℕ → List ℕ
nine_digits n = digit n 100000000 ∷ digit n 10000000 ∷ digit n 1000000 ∷ digit n 100000 ∷ digit n 10000 ∷ digit n 1000 ∷ digit n 100 ∷
    digit n 10 ∷ digit n 1 ∷ []

-- `-` before a year below 0
unfoldable pub year_sign : ℤ → List ℕ
year_sign y = if int_lt y (pos 0) then 45 ∷ [] else []

-- `YYYY-MM-DD` of a day, without the sign of the year
unfoldable pub date_digits : ℤ → List ℕ
date_digits k = four_digits (unsigned_abs (year_of k)) ++ 45 ∷ two_digits (month_of k) ++ 45 ∷ two_digits (day_of k)

-- `hh:mm:ss.nnnnnnnnn`
unfoldable pub time_text : ℕ → List ℕ
time_text t = two_digits (hour_of t) ++ 58 ∷ two_digits (minute_of t) ++ 58 ∷ two_digits (second_of t) ++ 46 ∷ nine_digits (nanosecond_of t)

-- the day and the time of day of a number of nanoseconds from 1970-01-01 00:00
unfoldable pub day_part : ℤ → ℤ
day_part x = int_div_euclid x (pos nanos_per_day)

unfoldable pub time_part : ℤ → ℕ
time_part x = unsigned_abs (int_rem_euclid x (pos nanos_per_day))

-- `YYYY-MM-DD hh:mm:ss.nnnnnnnnn`, or `-YYYY..` below the year 0
unfoldable pub local_text : ℤ → List ℕ
local_text x = year_sign (year_of (day_part x)) ++ date_digits (day_part x) ++ 32 ∷ time_text (time_part x)

-- `+hh:mm:ss`, or `-hh:mm:ss` below zero
unfoldable pub offset_text : ℤ → List ℕ
offset_text o =
    let size = unsigned_abs o in
    (if int_lt o (pos 0) then 45 else 43) ∷ two_digits (size / 3600) ++ 58 ∷ two_digits (size / 60 % 60) ++ 58 ∷ two_digits (size % 60)

-- the local text of the instant t at the offset o, a space and the offset's text
unfoldable pub zoned_text : ℤ → ℤ → List ℕ
zoned_text t o = local_text (local_at t o) ++ 32 ∷ offset_text o
