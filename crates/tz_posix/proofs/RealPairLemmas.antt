-- Three pairs of yearly rules of the tz database meet each condition.
use Rattle.std.proofs.Common.{◌≡◌, ℕ, List, [], ◌∷◌, Option, inl, inr, refl, sym, ap, ◌∙◌, ◌⊎◌, arith, ℤ, pos, neg_ℤ, ◌+ℤ◌, ◌-ℤ◌, ◌*ℤ◌, ◌≤ℤ◌, ◌<ℤ◌}
use Rattle.basics.specs.{Numbers.{value_in}, Dates.{last_with}, Days.{is_leap, days_in_year, days_in_month, days_after_zero, year_start, days_through, days_into_year, day}, SignedLaws.{signed}, Weekdays.{weekday_of}}
use Rattle.civil_base.specs.Instants.{seconds_of}
use Rattle.zone_table.specs.{Days.{first_from, named_day}, Months.{month_number}, declared.day.DaySpec.{DaySpec}, declared.day.DaySpec.TheVariants.{FirstOnOrAfter, Last}, declared.month.Month.{Month}, declared.{month.Month.TheVariants.{March, April, October, November}, weekday.Weekday.TheVariants.{Sunday}}, declared.zone.ZoneInfo.{ZoneInfo}}
use Rattle.zone_spans.specs.{Lines.{Rulesets}, Schedules.{schedule_of_lines, total_at}}
use Rattle.tz_posix.proofs.{TwoRuleFiringLemmas.{wall_moment}, NorthernLemmas.{northern_agrees}, SouthernLemmas.{southern_agrees}}
use Rattle.tz_posix.proofs.MonthPairLemmas.{AreInnerRules, IsInner, end_inside, northern_apart, northern_order, southern_apart, southern_order, start_inside}
use Rattle.tz_posix.specs.{Agreement.{IsChange, IsNorthern, IsSameDay, IsSameTime, IsSouthern, IsTimeOfDay, RuledValue, SaysTheSame, TwoRuleZone, start_in, value_of, value_total, from_first, from_eighth, last_of_month}, DayLaws.{day-2100}}
use Rattle.tz_posix.specs.Reading.{number_at, part_at, clock_time_at, sign_at, offset_at, letters_at, enclosed_at, name_at, weekday_at, date_at, moment_at, rule_in, own_offset_at, own_rule_in, dst_in, short_in, expanded_in, entry_in}
use Rattle.tz_posix.specs.{RealPairs.{IsRuledBy, on_the_wall, lord_howe_rules, lord_howe_text, lord_howe_value, moldova_rules, moldova_text, moldova_value, new_york_text, new_york_value, us_rules}, InForce.{yearly_time}}
use Rattle.tz_posix.specs.{Seconds.{IsWritten, east_of, offset_seconds, time_seconds}, declared.date.Date.{Date}, Spells.{Spells}, FoundLaws.{entry_found}, TimeLaws.{day_times_read}}

pub new_york_spelled : Spells new_york_text (value_of new_york_value)
unfolding
    value_in number_at part_at clock_time_at sign_at offset_at letters_at enclosed_at name_at weekday_at date_at moment_at
    rule_in own_offset_at own_rule_in dst_in short_in expanded_in entry_in
new_york_spelled = entry_found day_times_read new_york_text _ refl

pub lord_howe_spelled : Spells lord_howe_text (value_of lord_howe_value)
unfolding
    value_in number_at part_at clock_time_at sign_at offset_at letters_at enclosed_at name_at weekday_at date_at moment_at
    rule_in own_offset_at own_rule_in dst_in short_in expanded_in entry_in
lord_howe_spelled = entry_found day_times_read lord_howe_text _ refl

pub moldova_spelled : Spells moldova_text (value_of moldova_value)
unfolding
    value_in number_at part_at clock_time_at sign_at offset_at letters_at enclosed_at name_at weekday_at date_at moment_at
    rule_in own_offset_at own_rule_in dst_in short_in expanded_in entry_in
moldova_spelled = entry_found day_times_read moldova_text _ refl

-- 2007-01-01, 1997-01-01, and the first Sunday of October 2008
day_2007 : day (pos 2007) 1 1 ≡ pos 13514
unfolding is_leap days_in_year days_in_month days_after_zero year_start days_through days_into_year day
day_2007 = refl

day_1997 : day (pos 1997) 1 1 ≡ pos 9862
unfolding is_leap days_in_year days_in_month days_after_zero year_start days_through days_into_year day
day_1997 = refl

sunday_2008 : named_day (FirstOnOrAfter Sunday (pos 1)) (pos 2008) October ≡ pos 14157
unfolding named_day first_from last_with weekday_of is_leap days_in_year days_in_month days_after_zero year_start days_through days_into_year day
sunday_2008 = refl

-- two rules of Sundays by the wall's clock
module _ (line : ZoneInfo) (from : ℤ) (m n : Month) (day other : DaySpec) (time late saving : ℤ) (d s : Option (List ℕ)) where
  abbrev rules : TwoRuleZone
  rules = record { line = line; start = on_the_wall from m day time saving d; end = on_the_wall from n other late (pos 0) s; from = from }

  inner_of : {a b : Date} → IsSameDay m Sunday day a → IsSameDay n Sunday other b → IsInner (month_number m) → IsInner (month_number n)
      → IsTimeOfDay time → IsTimeOfDay late → from ≤ℤ pos 2099 → pos 0 <ℤ saving → saving ≤ℤ pos 86400 → AreInnerRules rules
  inner_of {a} {b} is is_other inner inner_other early later at_most some small = record {
    start_weekday = Sunday;
    start_date = a;
    start_day = is;
    end_weekday = Sunday;
    end_date = b;
    end_day = is_other;
    start_month = inner;
    end_month = inner_other;
    start_wall = refl;
    end_wall = refl;
    start_time = early;
    end_time = later;
    from_at_most = at_most;
    saving = some;
    saving_small = small;
  }

  module _ (rulesets : Rulesets) (offset : ℤ) (is : IsRuledBy rulesets offset rules) (q : RuledValue) (inner : AreInnerRules rules) where
    same_of : IsNorthern rules ⊎ IsSouthern rules
        → ((s t : ℤ) → IsChange rules s → IsChange rules t → s <ℤ t → (s +ℤ saving) <ℤ t)
        → IsWritten line.offset → IsWritten (line.offset +ℤ saving) → east_of q.standard ≡ offset → east_of q.saving ≡ offset +ℤ saving
        → IsSameTime rules.start (yearly_time q.rule.start) → IsSameTime rules.end (yearly_time q.rule.end) → SaysTheSame rulesets rules q
    same_of order apart standard ahead same_standard same_saving same_start same_end = record {
      ruleset_name = is.ruleset_name;
      ruled = is.ruled;
      rules = is.rules;
      found = is.found;
      exactly_two = is.exactly_two;
      start_from = refl;
      end_from = refl;
      from_at_most = inner.from_at_most;
      start_to_max = refl;
      end_to_max = refl;
      saving = inner.saving;
      no_saving = refl;
      standard_small = standard;
      saving_small = ahead;
      start_wall = refl;
      end_wall = refl;
      start_time = inner.start_time;
      end_time = inner.end_time;
      start_inside = start_inside rules inner;
      end_inside = end_inside rules inner;
      order = order;
      apart = apart;
      same_standard = same_standard ∙ sym is.offset_is;
      same_saving = same_saving ∙ sym (ap (λ o. o +ℤ saving) is.offset_is);
      same_start = same_start;
      same_end = same_end;
    }

-- ---- the United States, -5:00

module _ (rulesets : Rulesets) (line : ZoneInfo) (d s : Option (List ℕ)) (is : IsRuledBy rulesets (neg_ℤ (pos 18000)) (us_rules line d s)) where
  new_york_inner : AreInnerRules (us_rules line d s)
  new_york_inner = inner_of line (pos 2007) March November (FirstOnOrAfter Sunday (pos 8)) (FirstOnOrAfter Sunday (pos 1)) (pos 7200) (pos 7200) (pos 3600) d s from_eighth from_first
      (record { first = omega arith; last = omega arith }) (record { first = omega arith; last = omega arith })
      (record { least = omega (arith, signed); greatest = omega (arith, signed) }) (record { least = omega (arith, signed); greatest = omega (arith, signed) })
      (omega (arith, signed)) (omega (arith, signed)) (omega (arith, signed))

  pub new_york_north : IsNorthern (us_rules line d s)
  new_york_north = northern_order (us_rules line d s) new_york_inner (omega arith)

  pub new_york_same : SaysTheSame rulesets (us_rules line d s) new_york_value
  unfolding offset_seconds time_seconds
  new_york_same =
      let offset = is.offset_is in
      same_of line (pos 2007) March November (FirstOnOrAfter Sunday (pos 8)) (FirstOnOrAfter Sunday (pos 1)) (pos 7200) (pos 7200) (pos 3600) d s rulesets (neg_ℤ (pos 18000)) is new_york_value new_york_inner
      (inl new_york_north) (northern_apart (us_rules line d s) new_york_inner (omega arith))
      (record { least = omega (arith, signed); greatest = omega (arith, signed) }) (record { least = omega (arith, signed); greatest = omega (arith, signed) })
      refl refl (record { weekday = Sunday; day = from_eighth; seconds = refl }) (record { weekday = Sunday; day = from_first; seconds = refl })

  pub new_york_agrees : (t : ℤ) → pos 1167627600 ≤ℤ seconds_of t → seconds_of t <ℤ pos 4102462800
      → total_at (schedule_of_lines rulesets (line ∷ [])) t ≡ value_total new_york_value (seconds_of t)
  new_york_agrees t low high =
      let offset = is.offset_is in
      northern_agrees rulesets (us_rules line d s) new_york_value new_york_same new_york_north t
      (record { begun = omega (arith, signed, offset, day_2007); not_over = omega (arith, signed, offset, day-2100) })

-- ---- Lord Howe Island, 10:30

module _ (rulesets : Rulesets) (line : ZoneInfo) (d s : Option (List ℕ)) (is : IsRuledBy rulesets (pos 37800) (lord_howe_rules line d s)) where
  lord_howe_inner : AreInnerRules (lord_howe_rules line d s)
  lord_howe_inner = inner_of line (pos 2008) October April (FirstOnOrAfter Sunday (pos 1)) (FirstOnOrAfter Sunday (pos 1)) (pos 7200) (pos 7200) (pos 1800) d s from_first from_first
      (record { first = omega arith; last = omega arith }) (record { first = omega arith; last = omega arith })
      (record { least = omega (arith, signed); greatest = omega (arith, signed) }) (record { least = omega (arith, signed); greatest = omega (arith, signed) })
      (omega (arith, signed)) (omega (arith, signed)) (omega (arith, signed))

  pub lord_howe_south : IsSouthern (lord_howe_rules line d s)
  lord_howe_south = southern_order (lord_howe_rules line d s) lord_howe_inner (omega arith)

  pub lord_howe_same : SaysTheSame rulesets (lord_howe_rules line d s) lord_howe_value
  unfolding offset_seconds time_seconds
  lord_howe_same =
      let offset = is.offset_is in
      same_of line (pos 2008) October April (FirstOnOrAfter Sunday (pos 1)) (FirstOnOrAfter Sunday (pos 1)) (pos 7200) (pos 7200) (pos 1800) d s rulesets (pos 37800) is lord_howe_value lord_howe_inner
      (inr lord_howe_south) (southern_apart (lord_howe_rules line d s) lord_howe_inner (omega arith))
      (record { least = omega (arith, signed); greatest = omega (arith, signed) }) (record { least = omega (arith, signed); greatest = omega (arith, signed) })
      refl refl (record { weekday = Sunday; day = from_first; seconds = refl }) (record { weekday = Sunday; day = from_first; seconds = refl })

  first_start : start_in (lord_howe_rules line d s) (pos 2008) ≡ pos 1223134200
  first_start =
      let offset = is.offset_is in
      wall_moment (lord_howe_rules line d s).start (pos 2008) line.offset (pos 0) refl
      ∙ ap (λ k. pos 86400 *ℤ k +ℤ pos 7200 -ℤ (line.offset +ℤ pos 0)) sunday_2008
      ∙ ap (λ o. pos 86400 *ℤ pos 14157 +ℤ pos 7200 -ℤ (o +ℤ pos 0)) offset

  pub lord_howe_agrees : (t : ℤ) → pos 1223134200 ≤ℤ seconds_of t → seconds_of t <ℤ pos 4102407000
      → total_at (schedule_of_lines rulesets (line ∷ [])) t ≡ value_total lord_howe_value (seconds_of t)
  lord_howe_agrees t low high =
      let offset = is.offset_is in
      southern_agrees rulesets (lord_howe_rules line d s) lord_howe_value lord_howe_same lord_howe_south t
      (record { begun = omega (arith, signed, first_start); not_over = omega (arith, signed, offset, day-2100) })

-- ---- Moldova, 2:00

module _ (rulesets : Rulesets) (line : ZoneInfo) (d s : Option (List ℕ)) (is : IsRuledBy rulesets (pos 7200) (moldova_rules line d s)) where
  moldova_inner : AreInnerRules (moldova_rules line d s)
  moldova_inner = inner_of line (pos 1997) March October (Last Sunday) (Last Sunday) (pos 7200) (pos 10800) (pos 3600) d s last_of_month last_of_month
      (record { first = omega arith; last = omega arith }) (record { first = omega arith; last = omega arith })
      (record { least = omega (arith, signed); greatest = omega (arith, signed) }) (record { least = omega (arith, signed); greatest = omega (arith, signed) })
      (omega (arith, signed)) (omega (arith, signed)) (omega (arith, signed))

  pub moldova_north : IsNorthern (moldova_rules line d s)
  moldova_north = northern_order (moldova_rules line d s) moldova_inner (omega arith)

  pub moldova_same : SaysTheSame rulesets (moldova_rules line d s) moldova_value
  unfolding offset_seconds time_seconds
  moldova_same =
      let offset = is.offset_is in
      same_of line (pos 1997) March October (Last Sunday) (Last Sunday) (pos 7200) (pos 10800) (pos 3600) d s rulesets (pos 7200) is moldova_value moldova_inner
      (inl moldova_north) (northern_apart (moldova_rules line d s) moldova_inner (omega arith))
      (record { least = omega (arith, signed); greatest = omega (arith, signed) }) (record { least = omega (arith, signed); greatest = omega (arith, signed) })
      refl refl (record { weekday = Sunday; day = last_of_month; seconds = refl }) (record { weekday = Sunday; day = last_of_month; seconds = refl })

  pub moldova_agrees : (t : ℤ) → pos 852069600 ≤ℤ seconds_of t → seconds_of t <ℤ pos 4102437600
      → total_at (schedule_of_lines rulesets (line ∷ [])) t ≡ value_total moldova_value (seconds_of t)
  moldova_agrees t low high =
      let offset = is.offset_is in
      northern_agrees rulesets (moldova_rules line d s) moldova_value moldova_same moldova_north t
      (record { begun = omega (arith, signed, offset, day_1997); not_over = omega (arith, signed, offset, day-2100) })
