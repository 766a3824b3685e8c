-- The texts that are written.
use Rattle.std.specs.{Prelude.{ℕ, ◌/◌, ◌%◌, ◌==◌, Bool, ◌&&◌, List, [], ◌∷◌, ◌++◌, if◌then◌else◌, ℤ, pos, int_lt, unsigned_abs, decimal}, List.{list_all}}
use Rattle.basics.specs.Dates.{year_of}
use Rattle.civil_base.specs.{Clock.{hour_of, minute_of, second_of, nanosecond_of}, Layout.{two_digits, nine_digits, year_sign, date_digits, day_part, time_part}}

abbrev pub is_zero : ℕ → Bool
is_zero c = c == 48

-- digits without the zeros at their end
abbrev pub shortest : List ℕ → List ℕ
shortest [] = []
shortest (c ∷ digits) = if is_zero c && list_all is_zero digits then [] else c ∷ shortest digits

-- `.` and the digits of a fraction, or nothing where all are 0
abbrev pub pointed : List ℕ → List ℕ
pointed [] = []
pointed (c ∷ digits) = 46 ∷ c ∷ digits

unfoldable pub fraction_text : ℕ → List ℕ
fraction_text n = pointed (shortest (nine_digits n))

-- `hh:mm:ss`
unfoldable pub clock_text : ℕ → List ℕ
clock_text t = two_digits (hour_of t) ++ 58 ∷ two_digits (minute_of t) ++ 58 ∷ two_digits (second_of t)

-- the date, the byte c and the time of day, with a fraction only where it isn't 0; a `-` before a year below 0
unfoldable pub moment_text : ℕ → ℤ → List ℕ
moment_text c x = (year_sign (year_of (day_part x)) ++ date_digits (day_part x)) ++ c ∷ clock_text (time_part x) ++ fraction_text (nanosecond_of (time_part x))

-- `:ss` where that isn't 0
abbrev pub seconds_shown : ℕ → List ℕ
seconds_shown s = if s == 0 then [] else 58 ∷ two_digits s

-- `+hh:mm` or `-hh:mm`, and the seconds where they aren't 0
unfoldable pub offset_shown : ℤ → List ℕ
offset_shown o =
    ((if int_lt o (pos 0) then 45 else 43) ∷ two_digits (unsigned_abs o / 3600) ++ 58 ∷ two_digits (unsigned_abs o / 60 % 60))
    ++ seconds_shown (unsigned_abs o % 60)

-- the local time x, the offset o and a name, as in `2024-10-27 02:30:00 +02:00 CEST`
unfoldable pub people_text : ℤ → ℤ → List ℕ → List ℕ
people_text x o name = (moment_text 32 x ++ 32 ∷ offset_shown o) ++ 32 ∷ name

-- the local time x at the offset o, as in `2024-10-27T02:30:00+02:00`
unfoldable pub rfc3339_text : ℤ → ℤ → List ℕ
rfc3339_text x o = moment_text 84 x ++ offset_shown o

-- the instant t, as in `@1729989000`
unfoldable pub epoch_text : ℤ → List ℕ
epoch_text t =
    (64 ∷ (if int_lt t (pos 0) then 45 ∷ [] else []) ++ decimal (unsigned_abs t / 1000000000)) ++ fraction_text (unsigned_abs t % 1000000000)

-- the same without the mark, as `1729989000`
unfoldable pub seconds_text : ℤ → List ℕ
seconds_text t =
    ((if int_lt t (pos 0) then 45 ∷ [] else []) ++ decimal (unsigned_abs t / 1000000000)) ++ fraction_text (unsigned_abs t % 1000000000)
