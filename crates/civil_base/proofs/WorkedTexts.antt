-- The definitions evaluated on texts, offsets, times and days that are known from outside.
use Rattle.std.{proofs.Common.{◌≡◌, refl, ◌∙◌, arith, ℕ, ◌≤◌, ◌<◌, lit≤, lit<, List, [], ◌∷◌, ◌++◌, ap, map, true, false, ℤ, pos, neg_ℤ, ◌+ℤ◌, ◌*ℤ◌, unsigned_abs}, specs.Prelude.{codes}}
use Rattle.basics.specs.{Days.{is_leap, days_in_year, days_in_month, days_after_zero, days_before_zero, year_start, days_through, days_into_year, day, IsDate, IsCountedYear}, DateLaws.{year_of-day, month_of-day, day_of-day}, SignedLaws.{signed}}
use Rattle.civil_base.specs.{Clock.{nanos_per_day, hour_of, minute_of, second_of, nanosecond_of, time_at}, Instants.{local_at, instant_at, seconds_of}}
use Rattle.civil_base.specs.{Layout.{two_digits, four_digits, year_sign, date_digits, time_text, day_part, time_part, local_text, offset_text, zoned_text}, Julian.{julian_of, day_of_julian}, Offsets.{offset_at, hours_in, minutes_in, seconds_in}}
use Rattle.civil_base.specs.{Ordinals.{ordinal_day}, Ranges.{is_in_years, is_offset}}

parts_of : (x k : ℤ) (t : ℕ) → t < nanos_per_day → k *ℤ pos nanos_per_day +ℤ pos t ≡ x → (day_part x ≡ k) × (time_part x ≡ t)
unfolding day_part time_part
parts_of x k t small e = (omega (arith, signed, e), omega (arith, signed, e))

-- the text of a time of that date
text_of_date : (x : ℤ) (y : ℤ) (m d t : ℕ) → IsCountedYear y → IsDate y m d → t < nanos_per_day
    → day y m d *ℤ pos nanos_per_day +ℤ pos t ≡ x
    → local_text x ≡ year_sign y ++ (four_digits (unsigned_abs y) ++ 45 ∷ two_digits m ++ 45 ∷ two_digits d) ++ 32 ∷ time_text t
unfolding local_text date_digits
text_of_date x y m d t years date small e =
    let parts = parts_of x (day y m d) t small e in
    rw (parts.0, parts.1, year_of-day y m d years date, month_of-day y m d years date, day_of-day y m d years date) refl

first_date : IsDate (neg_ℤ (pos 9999)) 1 1
unfolding is_leap days_in_month
first_date = record { first_month = lit≤ tt; last_month = lit≤ tt; first_day = lit≤ tt; last_day = lit≤ tt }

last_year_before_zero : IsDate (neg_ℤ (pos 1)) 12 31
unfolding is_leap days_in_month
last_year_before_zero = record { first_month = lit≤ tt; last_month = lit≤ tt; first_day = lit≤ tt; last_day = lit≤ tt }

leap_day_of_zero : IsDate (pos 0) 2 29
unfolding is_leap days_in_month
leap_day_of_zero = record { first_month = lit≤ tt; last_month = lit≤ tt; first_day = lit≤ tt; last_day = lit≤ tt }

counted : (y : ℤ) → unsigned_abs y ≤ 9999 → IsCountedYear y
counted y h = record { first = omega (arith, signed); last = omega (arith, signed) }

worked_first : local_text (neg_ℤ (pos 377705116800000000000)) ≡ codes "-9999-01-01 00:00:00.000000000"
unfolding is_leap days_in_year days_in_month days_after_zero days_before_zero year_start days_through days_into_year day
    year_sign time_text hour_of minute_of second_of nanosecond_of
worked_first = text_of_date _ (neg_ℤ (pos 9999)) 1 1 0 (counted _ (lit≤ tt)) first_date (lit< tt) refl ∙ refl

worked_before_zero : local_text (neg_ℤ (pos 62167219200000000001)) ≡ codes "-0001-12-31 23:59:59.999999999"
unfolding is_leap days_in_year days_in_month days_after_zero days_before_zero year_start days_through days_into_year day
    year_sign time_text hour_of minute_of second_of nanosecond_of
worked_before_zero =
    text_of_date _ (neg_ℤ (pos 1)) 12 31 86399999999999 (counted _ (lit≤ tt)) last_year_before_zero (lit< tt) refl ∙ refl

worked_zero : local_text (neg_ℤ (pos 62162076303210987655)) ≡ codes "0000-02-29 12:34:56.789012345"
unfolding is_leap days_in_year days_in_month days_after_zero days_before_zero year_start days_through days_into_year day
    year_sign time_text hour_of minute_of second_of nanosecond_of
worked_zero = text_of_date _ (pos 0) 2 29 45296789012345 (counted _ (lit≤ tt)) leap_day_of_zero (lit< tt) refl ∙ refl

-- the sign of an offset is that of the whole
worked_offsets : map offset_text (pos 93599 ∷ pos 5400 ∷ pos 0 ∷ neg_ℤ (pos 1) ∷ neg_ℤ (pos 5415) ∷ neg_ℤ (pos 93599) ∷ [])
    ≡ codes "+25:59:59" ∷ codes "+01:30:00" ∷ codes "+00:00:00" ∷ codes "-00:00:01" ∷ codes "-01:30:15" ∷ codes "-25:59:59" ∷ []
unfolding offset_text
worked_offsets = refl

-- 25:59:59 is an offset, 26:00:00 is none
worked_offset_range : map is_offset (pos 93599 ∷ pos 93600 ∷ pos 0 ∷ neg_ℤ (pos 93599) ∷ neg_ℤ (pos 93600) ∷ [])
    ≡ true ∷ false ∷ true ∷ true ∷ false ∷ []
worked_offset_range = refl

-- the first part that isn't 0 gives its sign
worked_offset_parts : offset_at (pos 25) (pos 59) (pos 59) ∷ offset_at (neg_ℤ (pos 1)) (pos 30) (pos 15) ∷
    offset_at (pos 0) (neg_ℤ (pos 30)) (pos 15)
    ∷ offset_at (pos 0) (pos 0) (neg_ℤ (pos 15)) ∷ offset_at (pos 1) (neg_ℤ (pos 30)) (neg_ℤ (pos 15)) ∷ []
    ≡ pos 93599 ∷ neg_ℤ (pos 5415) ∷ neg_ℤ (pos 1815) ∷ neg_ℤ (pos 15) ∷ pos 5415 ∷ []
unfolding offset_at
worked_offset_parts = refl

-- -9999-01-01 00:00, the nanosecond before it, the end of 9999-12-31 and the nanosecond before it
worked_years : map is_in_years (neg_ℤ (pos 377705116800000000000) ∷ neg_ℤ (pos 377705116800000000001) ∷ pos 253402300800000000000 ∷
    pos 253402300799999999999 ∷ [])
    ≡ true ∷ false ∷ false ∷ true ∷ []
worked_years = refl

worked_seconds : map seconds_of (neg_ℤ (pos 1) ∷ neg_ℤ (pos 1000000000) ∷ neg_ℤ (pos 1000000001) ∷ pos 999999999 ∷ pos 1000000000 ∷ [])
    ≡ neg_ℤ (pos 1) ∷ neg_ℤ (pos 1) ∷ neg_ℤ (pos 2) ∷ pos 0 ∷ pos 1 ∷ []
unfolding seconds_of
worked_seconds = refl

-- 12:34:56.789012345
worked_time : hour_of 45296789012345 ∷ minute_of 45296789012345 ∷ second_of 45296789012345 ∷ nanosecond_of 45296789012345 ∷
    time_at 12 34 56 789012345 ∷ []
    ≡ 12 ∷ 34 ∷ 56 ∷ 789012345 ∷ 45296789012345 ∷ []
unfolding hour_of minute_of second_of nanosecond_of time_at
worked_time = refl

-- the last day of a leap year is its 366th, and 1 March of a common year its 60th
worked_ordinals : ordinal_day (pos 2024) 366 ∷ ordinal_day (pos 2023) 60 ∷ ordinal_day (neg_ℤ (pos 4)) 366 ∷ [] ≡ day (pos 2024) 12 31 ∷
    day (pos 2023) 3 1 ∷ day (neg_ℤ (pos 4)) 12 31 ∷ []
unfolding ordinal_day is_leap days_in_year days_in_month days_after_zero days_before_zero year_start days_through days_into_year day
worked_ordinals = refl

-- clocks that are ahead of UTC show more, and those behind it less
worked_local_times : local_at (pos 0) (pos 5400) ∷ local_at (pos 7) (neg_ℤ (pos 1)) ∷ instant_at (pos 0) (pos 5400) ∷
    instant_at (pos 7) (neg_ℤ (pos 1)) ∷ []
    ≡ pos 5400000000000 ∷ neg_ℤ (pos 999999993) ∷ neg_ℤ (pos 5400000000000) ∷ pos 1000000007 ∷ []
worked_local_times = refl

epoch_date : IsDate (pos 1970) 1 1
unfolding is_leap days_in_month
epoch_date = record { first_month = lit≤ tt; last_month = lit≤ tt; first_day = lit≤ tt; last_day = lit≤ tt }

worked_zoned : zoned_text (pos 0) (pos 5400) ≡ codes "1970-01-01 01:30:00.000000000 +01:30:00"
unfolding is_leap days_in_year days_in_month days_after_zero days_before_zero year_start days_through days_into_year day
    year_sign time_text hour_of minute_of second_of nanosecond_of offset_text zoned_text
worked_zoned =
    ap (λ local. local ++ 32 ∷ offset_text (pos 5400))
    (text_of_date (local_at (pos 0) (pos 5400)) (pos 1970) 1 1 5400000000000 (counted _ (lit≤ tt)) epoch_date (lit< tt) refl)

-- 25:59:59, 01:30:15 and 01:00:00, each ahead and behind
abbrev offsets : List ℤ
offsets = pos 93599 ∷ neg_ℤ (pos 93599) ∷ pos 5415 ∷ neg_ℤ (pos 5415) ∷ pos 3600 ∷ neg_ℤ (pos 3600) ∷ []

worked_offset_hours : map hours_in offsets ≡ pos 25 ∷ neg_ℤ (pos 25) ∷ pos 1 ∷ neg_ℤ (pos 1) ∷ pos 1 ∷ neg_ℤ (pos 1) ∷ []
worked_offset_hours = refl

worked_offset_minutes : map minutes_in offsets ≡ pos 59 ∷ neg_ℤ (pos 59) ∷ pos 30 ∷ neg_ℤ (pos 30) ∷ pos 0 ∷ pos 0 ∷ []
worked_offset_minutes = refl

worked_offset_seconds : map seconds_in offsets ≡ pos 59 ∷ neg_ℤ (pos 59) ∷ pos 15 ∷ neg_ℤ (pos 15) ∷ pos 0 ∷ pos 0 ∷ []
worked_offset_seconds = refl

-- -4713-11-24, 2000-01-01 and 1582-10-15
worked_julian_days : julian_of (day (neg_ℤ (pos 4713)) 11 24) ∷ julian_of (day (pos 2000) 1 1) ∷ day_of_julian (pos 2299161) ∷ []
    ≡ pos 0 ∷ pos 2451545 ∷ day (pos 1582) 10 15 ∷ []
unfolding is_leap days_in_year days_in_month days_after_zero days_before_zero year_start days_through days_into_year day
worked_julian_days = refl
