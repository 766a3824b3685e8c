-- Alarms at half past two in Berlin in 2024, as Python's `zoneinfo` has their instants.
use Rattle.std.proofs.Common.{◌≡◌, refl, ap, ◌∙◌, arith, Bool, true, false, not, lit≤, ◌++◌, ◌∷◌, [], List, ℕ, ℤ, map, pos, filter, int_le, int_lt, ◌&&◌, ◌-ℤ◌, cond, Option, Ok, Err, Some, None}
use Rattle.std.specs.{Prelude.{codes}, Fmt.{digits}, Ordering.{int_eq}}
use Rattle.basics.specs.{DateLaws.{year_of-day}, Dates.{year_of}, Days.{is_leap, days_in_year, days_in_month, days_after_zero, days_before_zero, year_start, days_through, days_into_year, day, IsCountedYear, IsDate}, SignedLaws.{signed}, Weekdays.{weekday_of}}
use Rattle.civil_base.specs.{Instants.{instant_at, local_at, seconds_of}, Layout.{day_part}, Ranges.{is_in_years}}
use Rattle.zone_words.specs.{Written.{epoch_text, fraction_text}, declared.answer_form.AnswerForm.TheVariants.{Epoch}, Tasks.{AlarmAsked}, declared.task.FoldRule.TheVariants.{First, Second, Both}, declared.task.GapRule.TheVariants.{Skip, Before, After}}
use Rattle.zone_texts.{specs.{Faults.{Due, each_due, followed}, Instants.{is_untold, line_due, shown_due}, Skips.{skipping}, Views.{InForce, ZoneView}, declared.fault.ReplyFault.TheVariants.{OutOfYears, Untold}, Days.{days_between, is_dated, is_on, last_of, step_of}, Rings.{by_fold, by_gap, counts, first_of, lines_on, rings_at, rings_due, rung_on, time_on}}, proofs.RungLemmas.{not_dated, not_on, not_told, told}}

-- summer time from 2024-03-31 01:00 UTC up to 2024-10-27 01:00 UTC
is_summer : ℤ → Bool
is_summer s = int_le (pos 1711846800) s && int_lt s (pos 1729990800)

in_force : ℤ → InForce
in_force s =
    cond (is_summer s) (record { offset = pos 7200; saving = pos 3600; name = codes "CEST" })
    (record { offset = pos 3600; saving = pos 0; name = codes "CET" })

total_in : ℤ → ℤ
total_in t = (in_force (seconds_of t)).offset

instants_in : ℤ → List ℤ
instants_in x = filter (λ t. int_eq (local_at t (total_in t)) x) (map (instant_at x) (pos 7200 ∷ pos 3600 ∷ []))

changes_in : ℤ → ℤ → List ℤ
changes_in from to = filter (λ s. int_le from s && int_lt s to) (pos 1711846800 ∷ pos 1729990800 ∷ [])

berlin : ℤ → ZoneView
berlin last = record { total = total_in; readings = instants_in; force = in_force; changes = changes_in; last_year = last }

-- 02:30 of 31 March, of 27 October and of the day after that
skipped : time_on (pos 19813) 9000000000000 ≡ pos 1711852200000000000
skipped = refl

in_gap : map (λ gap. rings_at gap Both (berlin (pos 2099)) (pos 1711852200000000000)) (Skip ∷ Before ∷ After ∷ [])
    ≡ [] ∷ (pos 1711848600000000000 ∷ []) ∷ (pos 1711845000000000000 ∷ []) ∷ []
unfolding is_summer in_force total_in instants_in changes_in berlin seconds_of skipping rings_at
in_gap = refl

in_fold : map (λ fold. rings_at Before fold (berlin (pos 2099)) (pos 1729996200000000000)) (First ∷ Second ∷ Both ∷ [])
    ≡ (pos 1729989000000000000 ∷ []) ∷ (pos 1729992600000000000 ∷ []) ∷ (pos 1729989000000000000 ∷ pos 1729992600000000000 ∷ []) ∷ []
unfolding is_summer in_force total_in instants_in berlin seconds_of rings_at
in_fold = refl

in_neither : map (λ fold. rings_at Before fold (berlin (pos 2099)) (pos 1730082600000000000)) (First ∷ Second ∷ Both ∷ [])
    ≡ (pos 1730079000000000000 ∷ []) ∷ (pos 1730079000000000000 ∷ []) ∷ (pos 1730079000000000000 ∷ []) ∷ []
unfolding is_summer in_force total_in instants_in berlin seconds_of rings_at
in_neither = refl

-- of three instants of one local time
of_three : map (λ fold. by_fold fold (pos 1 ∷ pos 2 ∷ pos 3 ∷ [])) (First ∷ Second ∷ Both ∷ [])
    ≡ (pos 1 ∷ []) ∷ (pos 2 ∷ []) ∷ (pos 1 ∷ pos 2 ∷ pos 3 ∷ []) ∷ []
of_three = refl

-- a local time that no change skips has no instant by it
by_none : map (λ gap. by_gap gap (berlin (pos 2099)) (pos 1730082600000000000)) (Skip ∷ Before ∷ After ∷ []) ≡ [] ∷ [] ∷ [] ∷ []
unfolding is_summer in_force changes_in berlin seconds_of skipping
by_none = refl

-- each three days: the last day is one of them or lies between two; one day; and none
each_three : days_between (pos 19812) (pos 19818) 3 ∷ days_between (pos 19812) (pos 19817) 3 ∷ days_between (pos 19812) (pos 19812) 3
    ∷ days_between (pos 19812) (pos 19811) 3 ∷ []
    ≡ (pos 19812 ∷ pos 19815 ∷ pos 19818 ∷ []) ∷ (pos 19812 ∷ pos 19815 ∷ []) ∷ (pos 19812 ∷ []) ∷ [] ∷ []
unfolding days_between
each_three = refl

steps : map step_of (0 ∷ 1 ∷ 2 ∷ 65535 ∷ []) ≡ 1 ∷ 1 ∷ 2 ∷ 65535 ∷ []
steps = refl

told_last : last_of (Some (pos 19812)) 3 ≡ pos 19812
told_last = refl

-- where no last day is told, the days go on past 9999-12-31, from a week before it and from six days
past_years : map (λ first. map is_dated (days_between first (last_of None 3) 3)) (pos 2932890 ∷ pos 2932889 ∷ [])
    ≡ (true ∷ true ∷ true ∷ false ∷ []) ∷ (true ∷ true ∷ true ∷ false ∷ []) ∷ []
unfolding days_between
past_years = refl

edges : map is_dated (pos 2932896 ∷ pos 2932897 ∷ (pos 0 -ℤ pos 4371587) ∷ (pos 0 -ℤ pos 4371588) ∷ []) ≡ true ∷ false ∷ true ∷ false ∷ []
edges = refl

-- on Mondays and Thursdays, each three days from Thursday, 28 March up to 30 April
mondays_and_thursdays : filter (is_on (true ∷ false ∷ false ∷ true ∷ false ∷ false ∷ false ∷ [])) (days_between (pos 19810) (pos 19843) 3)
    ≡ pos 19810 ∷ pos 19828 ∷ pos 19831 ∷ []
unfolding days_between is_on weekday_of
mondays_and_thursdays = refl

-- from Sunday, 31 March on: Saturdays, and Sundays
weekends : filter (is_on (false ∷ false ∷ false ∷ false ∷ false ∷ true ∷ false ∷ [])) (days_between (pos 19813) (pos 19820) 1)
    ∷ filter (is_on (false ∷ false ∷ false ∷ false ∷ false ∷ false ∷ true ∷ [])) (days_between (pos 19813) (pos 19820) 1) ∷ []
    ≡ (pos 19819 ∷ []) ∷ (pos 19813 ∷ pos 19820 ∷ []) ∷ []
unfolding days_between is_on weekday_of
weekends = refl

-- a day without a ring doesn't count, and one with two does once
two_days : map (λ count. first_of count (filter counts (Ok (pos 1 ∷ []) ∷ Ok [] ∷ Ok (pos 2 ∷ pos 3 ∷ []) ∷ Ok (pos 4 ∷ []) ∷ Err Untold ∷ [])))
    (Some 0 ∷ Some 2 ∷ Some 3 ∷ None ∷ [])
    ≡ [] ∷ (Ok (pos 1 ∷ []) ∷ Ok (pos 2 ∷ pos 3 ∷ []) ∷ []) ∷ (Ok (pos 1 ∷ []) ∷ Ok (pos 2 ∷ pos 3 ∷ []) ∷ Ok (pos 4 ∷ []) ∷ [])
    ∷ (Ok (pos 1 ∷ []) ∷ Ok (pos 2 ∷ pos 3 ∷ []) ∷ Ok (pos 4 ∷ []) ∷ Err Untold ∷ []) ∷ []
two_days = refl

counted : IsCountedYear (pos 2024)
counted = record { first = omega (arith, signed); last = omega (arith, signed) }

of_2024 : (month d : ℕ) → IsDate (pos 2024) month d → year_of (day (pos 2024) month d) ≡ pos 2024
of_2024 month d is = year_of-day (pos 2024) month d counted is

-- 30 and 31 March, 1 and 2 April
in_2024 : (year_of (pos 19812) ≡ pos 2024) × (year_of (pos 19813) ≡ pos 2024) × (year_of (pos 19814) ≡ pos 2024) × (year_of (pos 19815) ≡ pos 2024)
unfolding is_leap days_in_year days_in_month days_after_zero days_before_zero year_start days_through days_into_year day
in_2024 = (
  of_2024 3 30 (record { first_month = lit≤ tt; last_month = lit≤ tt; first_day = lit≤ tt; last_day = lit≤ tt }),
  of_2024 3 31 (record { first_month = lit≤ tt; last_month = lit≤ tt; first_day = lit≤ tt; last_day = lit≤ tt }),
  of_2024 4 1 (record { first_month = lit≤ tt; last_month = lit≤ tt; first_day = lit≤ tt; last_day = lit≤ tt }),
  of_2024 4 2 (record { first_month = lit≤ tt; last_month = lit≤ tt; first_day = lit≤ tt; last_day = lit≤ tt }),
)

-- each day from 30 March on, but not where clocks skip the time
half_past_two : Option ℕ → Option ℤ → AlarmAsked
half_past_two count until = record {
  time = 9000000000000;
  first = pos 19812;
  count = count;
  until = until;
  every = 1;
  days = true ∷ true ∷ true ∷ true ∷ true ∷ true ∷ true ∷ [];
  gap = Skip;
  fold = First;
}

told_in : (last x : ℤ) → year_of (day_part x) ≡ pos 2024 → is_untold (berlin last) x ≡ int_lt last (pos 2024)
unfolding berlin
told_in last x year = ap (int_lt last) year

module _ (count : Option ℕ) (until : Option ℤ) where
  on_30th : rung_on (berlin (pos 2099)) (half_past_two count until) (pos 19812) ≡ Ok (pos 1711762200000000000 ∷ [])
  unfolding is_summer in_force total_in instants_in berlin seconds_of rings_at half_past_two is_on weekday_of day_part
  on_30th = told (berlin (pos 2099)) (half_past_two count until) (pos 19812) refl refl (told_in (pos 2099) (pos 1711765800000000000) in_2024.0)

  on_31st : rung_on (berlin (pos 2099)) (half_past_two count until) (pos 19813) ≡ Ok []
  unfolding is_summer in_force total_in instants_in berlin seconds_of rings_at half_past_two is_on weekday_of day_part
  on_31st = told (berlin (pos 2099)) (half_past_two count until) (pos 19813) refl refl (told_in (pos 2099) (pos 1711852200000000000) in_2024.1)

  on_1st : rung_on (berlin (pos 2099)) (half_past_two count until) (pos 19814) ≡ Ok (pos 1711931400000000000 ∷ [])
  unfolding is_summer in_force total_in instants_in berlin seconds_of rings_at half_past_two is_on weekday_of day_part
  on_1st = told (berlin (pos 2099)) (half_past_two count until) (pos 19814) refl refl (told_in (pos 2099) (pos 1711938600000000000) in_2024.2)

  on_2nd : rung_on (berlin (pos 2099)) (half_past_two count until) (pos 19815) ≡ Ok (pos 1712017800000000000 ∷ [])
  unfolding is_summer in_force total_in instants_in berlin seconds_of rings_at half_past_two is_on weekday_of day_part
  on_2nd = told (berlin (pos 2099)) (half_past_two count until) (pos 19815) refl refl (told_in (pos 2099) (pos 1712025000000000000) in_2024.3)

  -- past the last year that is told, and past all years
  after_2023 : rung_on (berlin (pos 2023)) (half_past_two count until) (pos 19812) ≡ Err Untold
  unfolding berlin half_past_two is_on weekday_of day_part
  after_2023 = not_told (berlin (pos 2023)) (half_past_two count until) (pos 19812) refl refl (told_in (pos 2023) (pos 1711765800000000000) in_2024.0)

  after_9999 : rung_on (berlin (pos 2099)) (half_past_two count until) (pos 2932897) ≡ Err OutOfYears
  after_9999 = not_dated (berlin (pos 2099)) (half_past_two count until) (pos 2932897) refl

-- a day that isn't wanted is told of any zone: 30 March is a Saturday
on_sundays : AlarmAsked
on_sundays = record (half_past_two None None) { days = false ∷ false ∷ false ∷ false ∷ false ∷ false ∷ true ∷ [] }

unwanted : rung_on (berlin (pos 2023)) on_sundays (pos 19812) ≡ Ok []
unfolding on_sundays half_past_two is_on weekday_of
unwanted = not_on (berlin (pos 2023)) on_sundays (pos 19812) refl refl

line_of : (t : ℤ) → is_in_years (local_at t (total_in t)) ≡ true → year_of (day_part (local_at t (total_in t))) ≡ pos 2024
    → line_due Epoch (berlin (pos 2099)) (codes "Europe/Berlin") t ≡ Ok (epoch_text t ++ 10 ∷ [])
unfolding shown_due berlin
line_of t years year =
    λ i. followed (shown_by (years i) (ap (int_lt (pos 2099)) year i)) (Ok (10 ∷ []))
  where
    shown_by : Bool → Bool → Due
    shown_by years untold = cond (not years) (Err OutOfYears) (cond untold (Err Untold) (Ok (epoch_text t)))

line_30th : line_due Epoch (berlin (pos 2099)) (codes "Europe/Berlin") (pos 1711762200000000000) ≡ Ok (codes "@1711762200" ++ 10 ∷ [])
unfolding is_summer in_force total_in seconds_of day_part epoch_text fraction_text digits
line_30th = line_of (pos 1711762200000000000) refl in_2024.0

line_1st : line_due Epoch (berlin (pos 2099)) (codes "Europe/Berlin") (pos 1711931400000000000) ≡ Ok (codes "@1711931400" ++ 10 ∷ [])
unfolding is_summer in_force total_in seconds_of day_part epoch_text fraction_text digits
line_1st = line_of (pos 1711931400000000000) refl in_2024.2

-- up to 1 April, that day too
up_to_1st : rings_due Epoch (berlin (pos 2099)) (codes "Europe/Berlin") (half_past_two None (Some (pos 19814)))
    ≡ Ok ((codes "@1711762200" ++ 10 ∷ []) ++ ((codes "@1711931400" ++ 10 ∷ []) ++ []))
unfolding half_past_two days_between lines_on each_due
up_to_1st =
    (λ i. lines_on Epoch (berlin (pos 2099)) (codes "Europe/Berlin") None
    (on_30th None (Some (pos 19814)) i ∷ on_31st None (Some (pos 19814)) i ∷ on_1st None (Some (pos 19814)) i ∷ []))
    ∙ (λ i. followed (followed (line_30th i) (Ok [])) (followed (followed (line_1st i) (Ok [])) (Ok [])))

-- on two days, of which the skipped one is none, up to 2 April
on_two : rings_due Epoch (berlin (pos 2099)) (codes "Europe/Berlin") (half_past_two (Some 2) (Some (pos 19815)))
    ≡ Ok ((codes "@1711762200" ++ 10 ∷ []) ++ ((codes "@1711931400" ++ 10 ∷ []) ++ []))
unfolding half_past_two days_between lines_on each_due
on_two =
    (λ i. lines_on Epoch (berlin (pos 2099)) (codes "Europe/Berlin") (Some 2)
    (on_30th (Some 2) (Some (pos 19815)) i ∷ on_31st (Some 2) (Some (pos 19815)) i ∷ on_1st (Some 2) (Some (pos 19815)) i
    ∷ on_2nd (Some 2) (Some (pos 19815)) i ∷ []))
    ∙ (λ i. followed (followed (line_30th i) (Ok [])) (followed (followed (line_1st i) (Ok [])) (Ok [])))

-- the years end before the count is full; a count that is full asks nothing more
years_end : map (λ count. lines_on Epoch (berlin (pos 2099)) (codes "Europe/Berlin") count (Ok [] ∷ Err OutOfYears ∷ [])) (Some 1 ∷ None ∷ Some 0 ∷ [])
    ≡ Err OutOfYears ∷ Err OutOfYears ∷ Ok [] ∷ []
unfolding lines_on each_due
years_end = refl
