-- Times in seconds and ranges, at worked rows.
use Rattle.std.proofs.Common.{◌≡◌, refl, ℕ, [], ◌∷◌, map, true, false, Option, Some, None, pos, neg_ℤ}
use Rattle.tz_posix.specs.{Ranges.{first_miss, is_rule_date, is_time, posix_range, rule_time_miss}, Seconds.{time_seconds, offset_seconds, east_of}, Spells.{day_times, signed_times}, Values.{short, expanded}, declared.date.Date.{Date}}
use Rattle.tz_posix.specs.declared.{date.Date.TheVariants.{J, N, M}, error.RangeError.{RangeError}, time.Offset.{Offset}, time.Time.{Time}}
use Rattle.tz_posix.specs.declared.error.RangeError.TheVariants as miss

abbrev hours : ℕ → Time
hours n = record { hh = n; mm = None; ss = None }

abbrev west : ℕ → Offset
west n = record { positive = true; time = hours n }

-- 1, 1:02 and 1:02:03; and these after `-`
worked_seconds : map time_seconds (hours 1 ∷ record { hh = 1; mm = Some 2; ss = None } ∷ record { hh = 1; mm = Some 2; ss = Some 3 } ∷ [])
    ≡ 3600 ∷ 3720 ∷ 3723 ∷ []
unfolding time_seconds
worked_seconds = refl

-- `EST5` lies five hours west
worked_offsets : offset_seconds (west 5) ∷ offset_seconds (record { positive = false; time = hours 10 }) ∷ east_of (west 5) ∷ []
    ≡ pos 18000 ∷ neg_ℤ (pos 36000) ∷ neg_ℤ (pos 18000) ∷ []
unfolding time_seconds offset_seconds
worked_offsets = refl

worked_times : is_time 23 (hours 23) ∷ is_time 23 (hours 24) ∷ is_time 24 (record { hh = 24; mm = Some 59; ss = Some 59 })
    ∷ is_time 24 (record { hh = 1; mm = Some 60; ss = None }) ∷ is_time 24 (record { hh = 1; mm = Some 0; ss = Some 60 }) ∷ []
    ≡ true ∷ false ∷ true ∷ false ∷ false ∷ []
worked_times = refl

-- the hours of rules' times, in a string and in a footer
worked_hours : map (λ h. rule_time_miss day_times (Some (hours h))) (23 ∷ 24 ∷ []) ≡ None ∷ Some miss.Time ∷ []
worked_hours = refl

worked_signed_hours : map (λ h. rule_time_miss signed_times (Some (record { positive = false; time = hours h }))) (167 ∷ 168 ∷ [])
    ≡ None ∷ Some miss.Time ∷ []
worked_signed_hours = refl

worked_dates : map is_rule_date (J 0 ∷ J 1 ∷ J 365 ∷ J 366 ∷ N 0 ∷ N 365 ∷ N 366 ∷ M 1 1 0 ∷ M 12 5 6 ∷ M 0 1 0 ∷ M 13 1 0 ∷ M 1 0 0 ∷
    M 1 6 0 ∷ M 1 1 7 ∷ [])
    ≡ false ∷ true ∷ true ∷ false ∷ true ∷ true ∷ false ∷ true ∷ true ∷ false ∷ false ∷ false ∷ false ∷ false ∷ []
worked_dates = refl

abbrev ranges_of : ℕ → ℕ → Date → Date → ℕ → Option RangeError
ranges_of offset own start end time =
    posix_range (expanded (record { name = []; offset = west offset }) (Some (record {
      name = [];
      offset = Some (west own);
      rule = Some (record { start = (start, Some (hours time)); end = (end, None) });
    })))

-- the standard offset, that of daylight saving time, both dates, and then the times
worked_order : ranges_of 24 24 (J 1) (J 2) 23 ∷ ranges_of 25 24 (J 0) (J 2) 23 ∷ ranges_of 24 25 (J 0) (J 2) 23 ∷
    ranges_of 24 24 (J 1) (J 0) 24 ∷ ranges_of 24 24 (J 0) (J 2) 24 ∷ ranges_of 24 24 (J 1) (J 2) 24 ∷ []
    ≡ None ∷ Some miss.Time ∷ Some miss.Time ∷ Some miss.Date ∷ Some miss.Date ∷ Some miss.Time ∷ []
unfolding first_miss
worked_order = refl

worked_alone : posix_range (short [])
    ∷ posix_range (expanded (record { name = []; offset = west 25 }) None) ∷ [] ≡ None ∷ Some miss.Time ∷ []
unfolding first_miss
worked_alone = refl
