-- Words, ends and lines at worked rows.
use Rattle.std.{proofs.Common.{◌≡◌, ℕ, lit≤, List, [], ◌∷◌, ◌++◌, map, Option, Some, None, option_map, refl, ◌∙◌, arith, ℤ, pos, true, false}, specs.Fmt.{digits}, specs.Prelude.{codes}}
use Rattle.basics.specs.{DateLaws.{year_of-day, month_of-day, day_of-day}, Days.{is_leap, days_in_year, days_in_month, days_after_zero, year_start, days_through, days_into_year, day, IsCountedYear, IsDate}, SignedLaws.{signed}}
use Rattle.civil_base.specs.{Layout.{date_digits, day_part, four_digits, two_digits, year_sign}, LocalTimes.{local_time_in}}
use Rattle.tz_lookup.specs.declared.set.FixedTimespanSet.{FixedTimespanSet}
use Rattle.zone_alarm.specs.{Asks.{asks, both, form}, RingLines.{ring_line}, Rings.{ends_in_years, rings, time_on}, Words.{days_in, start_text}}

-- from 1 to 36,600, with neither a sign nor a leading zero
days : map days_in
    (codes "1" ∷ codes "365" ∷ codes "36600" ∷ codes "0" ∷ codes "36601" ∷ codes "01" ∷ codes "+1" ∷ codes "-1" ∷ codes "-0" ∷ codes ""
    ∷ codes "1 " ∷ codes "1d" ∷ [])
    ≡ Some 1 ∷ Some 365 ∷ Some 36600 ∷ None ∷ None ∷ None ∷ None ∷ None ∷ None ∷ None ∷ None ∷ None ∷ []
unfolding digits
days = refl

-- the text that START and TIME make
start : start_text (codes "2024-03-09") (codes "02:30:00") ≡ codes "2024-03-09 02:30:00.000000000"
start = refl

-- from 9999-12-31 on, from the day before it and the day after it, and from a hundred years before it
last_days : map (λ (row : ℤ × ℕ). ends_in_years row.0 row.1)
    ((pos 2932896, 0) ∷ (pos 2932896, 1) ∷ (pos 2932896, 2) ∷ (pos 2932895, 2) ∷ (pos 2932895, 3) ∷ (pos 2932897, 1) ∷ (pos 2896297, 36600)
    ∷ (pos 2896298, 36600) ∷ [])
    ≡ true ∷ true ∷ false ∷ true ∷ false ∷ false ∷ true ∷ false ∷ []
last_days = refl

-- half past two of 2024-03-09, in nanoseconds
half_past_two : time_on (pos 19791) 9000000000000 ≡ pos 1709951400000000000
half_past_two = refl

-- the line of a day on which it doesn't ring, 2024-03-10
the_tenth : IsDate (pos 2024) 3 10
unfolding is_leap days_in_month
the_tenth = record { first_month = lit≤ tt; last_month = lit≤ tt; first_day = lit≤ tt; last_day = lit≤ tt }

counted : IsCountedYear (pos 2024)
counted = record { first = omega (arith, signed); last = omega (arith, signed) }

line_of : (k : ℤ) → k ≡ day (pos 2024) 3 10 → ring_line (k, None)
    ≡ (year_sign (pos 2024) ++ (four_digits 2024 ++ 45 ∷ two_digits 3 ++ 45 ∷ two_digits 10)) ++ codes " none"
unfolding date_digits
line_of k is =
    rw (is, year_of-day (pos 2024) 3 10 counted the_tenth, month_of-day (pos 2024) 3 10 counted the_tenth, day_of-day (pos 2024) 3 10 counted the_tenth) refl

no_ring : ring_line (pos 19792, None) ≡ codes "2024-03-10 none"
unfolding is_leap days_in_year days_in_month days_after_zero year_start days_through days_into_year day year_sign
no_ring = line_of (pos 19792) refl ∙ refl

-- one for each day, from the first on
day_by_day : map (λ (shown : ℤ × Option (ℤ × ℤ)). shown.0) (rings (λ t. pos 0) 0 (pos 5) 3) ≡ pos 5 ∷ pos 6 ∷ pos 7 ∷ []
unfolding rings
day_by_day = refl

-- at 23:00 of 9999-12-31: one day is in the years, two are not
refused : (set : FixedTimespanSet) → map (λ n. (asks (time_on (pos 2932896) 82800000000000) n).cause set) (1 ∷ 2 ∷ []) ≡ None ∷ Some (codes "range") ∷ []
unfolding day_part
refused set = refl

-- START, TIME and DAYS in this order, and no word fewer or more
module _ (date time : List ℕ) where
  in_order : form (date ∷ time ∷ codes "3" ∷ []) ≡ option_map (λ second. asks second 3) (local_time_in (date ++ codes " " ++ time ++ codes ".000000000"))
  unfolding digits
  in_order = by_start (local_time_in (date ++ codes " " ++ time ++ codes ".000000000"))
    where
      by_start : (found : Option ℤ) → option_map (λ (daily : ℤ × ℕ). asks daily.0 daily.1) (both found (Some 3)) ≡ option_map (λ second. asks second 3) found
      by_start None = refl
      by_start (Some second) = refl

  other_counts : map form ([] ∷ (date ∷ []) ∷ (date ∷ time ∷ []) ∷ (date ∷ time ∷ codes "3" ∷ codes "3" ∷ []) ∷ []) ≡ None ∷ None ∷ None ∷ None ∷ []
  other_counts = refl
