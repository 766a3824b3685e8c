-- The days that yearly rules name are those of dates by the weekday.
use Rattle.std.proofs.{Common.{◌≡◌, ℕ, suc, ◌+◌, ◌-◌, ◌%◌, ◌<◌, ◌≤◌, refl, ap, ◌∙◌, arith, nat_eq, ℤ, pos, ◌+ℤ◌, ◌-ℤ◌, ◌<ℤ◌, sym, unsigned_abs, true, false, not, ◌&&◌}, lemmas.Bool.{and_from}, Math.Bool.{and-false}}
use Rattle.basics.specs.{Dates.{last_with}, DateLaws.{day-between, day-last_of_year, place_of}, Days.{day, days_in_month, IsCountedYear, IsDate}, MonthLaws.{days_in_month-bounds, days_through-two}, ComparisonLaws.{le_pass, lt_pass}, SignedLaws.{signed}}
use Rattle.basics.specs.{WeekdayLaws.{day-from_first, last_with_weekday, weekday_of-small, weekday_in_month}, Weekdays.{weekday_of}, YearLaws.{cycle_days-suc, day-cycle}}
use Rattle.zone_table.specs.{Days.{first_from, is_in_year, named_day}, Months.{month_number}, WeekdayLaws.{first_from-is, weekday_number-small}, Weekdays.{weekday_number}, declared.day.DaySpec.{DaySpec}, declared.month.Month.{Month}, declared.{month.Month.TheVariants.{January, February, March, April, May, June, July, August, September, October, November, December}, weekday.Weekday.{Weekday}}, Moments.{applies_to_year}, declared.rule.RuleInfo.{RuleInfo}}
use Rattle.zone_spans.specs.Faults.{is_outside}
use Rattle.tz_posix.specs.{Agreement.{IsSameDay, from_first, from_eighth, from_fifteenth, from_twenty_second, last_of_month}, Days.{nth_weekday, rule_day}, declared.date.Date.{Date}}

-- the day of the month that the first such weekday from its day s on is, which is the last up to its day l
record IsPlace (y : ℤ) (m w s l : ℕ) : Type 0 where
  place : ℕ
  low : s ≤ place
  high : place ≤ l
  forward : first_from w (day y m s) ≡ day y m place
  back : last_with (λ d. nat_eq (weekday_of (day y m d)) w) l ≡ place

place_of_day : (y : ℤ) (m w s l : ℕ) → IsCountedYear y → w < 7 → 1 ≤ s → l ≡ s + 6 → IsPlace y m w s l
place_of_day y m w s l years small some is =
    let start = weekday_of-small (day y m s) in
    let in_month = weekday_in_month y m s years some in
    let ahead = (w + 7 - weekday_of (day y m s)) % 7 in
    let here = day-from_first y m s years some in
    let there = day-from_first y m (s + ahead) years (omega arith) in
    let moved : day y m s +ℤ pos ahead ≡ day y m (s + ahead) = omega (arith, signed) in
    record {
      place = s + ahead;
      low = omega arith;
      high = omega arith;
      forward = first_from-is w (day y m s) small ∙ moved;
      back = last_with_weekday y m w l (s + ahead) years small (omega arith) (omega arith) (omega arith) (omega arith);
    }

-- the day that is named is that of the date, and lies in the month
pub record IsNamed (month : Month) (spec : DaySpec) (date : Date) (y : ℤ) : Type 0 where
  pub place : ℕ
  pub in_month : IsDate y (month_number month) place
  pub named : named_day spec y month ≡ day y (month_number month) place
  pub dated : rule_day date y ≡ day y (month_number month) place

month_number-range : (month : Month) → (1 ≤ month_number month) × (month_number month ≤ 12)
month_number-range month = grind arith

a_date : (y : ℤ) (month : Month) (d : ℕ) → 1 ≤ d → d ≤ days_in_month y (month_number month) → IsDate y (month_number month) d
a_date y month d first last = record {
  first_month = (month_number-range month).0;
  last_month = (month_number-range month).1;
  first_day = first;
  last_day = last;
}

last_week : (y : ℤ) (m : ℕ) → IsCountedYear y → day y m (days_in_month y m) -ℤ pos 6 ≡ day y m (days_in_month y m - 6)
last_week y m years =
    let month = days_in_month-bounds y m in
    let l = days_in_month y m in
    let here = day-from_first y m l years (omega arith) in
    let there = day-from_first y m (l - 6) years (omega arith) in
    omega (arith, signed)

-- the same, where both are found from the day s of the month to its day l
of_place : (month : Month) (w : Weekday) (spec : DaySpec) (date : Date) (y : ℤ) (s l : ℕ) → IsCountedYear y → 1 ≤ s → l ≡ s + 6
    → l ≤ days_in_month y (month_number month)
    → named_day spec y month ≡ first_from (weekday_number w) (day y (month_number month) s)
    → rule_day date y
    ≡ day y (month_number month) (last_with (λ d. nat_eq (weekday_of (day y (month_number month) d)) (weekday_number w)) l)
    → IsNamed month spec date y
of_place month w spec date y s l years some is most named dated =
    let at = place_of_day y (month_number month) (weekday_number w) s l years (weekday_number-small w) some is in
    record {
      place = at.place;
      in_month = a_date y month at.place (omega (arith, at.low)) (omega (arith, at.high));
      named = named ∙ at.forward;
      dated = dated ∙ ap (day y (month_number month)) at.back;
    }

-- each month has 28 days
in_weeks : (month : Month) (w : Weekday) (spec : DaySpec) (date : Date) (y : ℤ) (s l : ℕ) → IsCountedYear y → 1 ≤ s → l ≡ s + 6 → l ≤ 28
    → named_day spec y month ≡ first_from (weekday_number w) (day y (month_number month) s)
    → rule_day date y
    ≡ day y (month_number month) (last_with (λ d. nat_eq (weekday_of (day y (month_number month) d)) (weekday_number w)) l)
    → IsNamed month spec date y
in_weeks month w spec date y s l years some is short named dated =
    let days = days_in_month-bounds y (month_number month) in
    of_place month w spec date y s l years some is (omega arith) named dated

pub is_named : (month : Month) (w : Weekday) (spec : DaySpec) (date : Date) (y : ℤ) → IsCountedYear y → IsSameDay month w spec date
    → IsNamed month spec date y
unfolding named_day rule_day nth_weekday
is_named month w _ _ y years from_first =
    in_weeks month w _ _ y 1 7 years (omega arith) refl (omega arith) refl refl
is_named month w _ _ y years from_eighth =
    in_weeks month w _ _ y 8 14 years (omega arith) refl (omega arith) refl refl
is_named month w _ _ y years from_fifteenth =
    in_weeks month w _ _ y 15 21 years (omega arith) refl (omega arith) refl refl
is_named month w _ _ y years from_twenty_second =
    in_weeks month w _ _ y 22 28 years (omega arith) refl (omega arith) refl refl
is_named month w _ _ y years last_of_month =
    let l = days_in_month y (month_number month) in
    let days = days_in_month-bounds y (month_number month) in
    of_place month w _ _ y (l - 6) l years (omega arith) (omega arith) (omega arith)
    (ap (first_from (weekday_number w)) (last_week y (month_number month) years)) refl

pub named_day-is : (month : Month) (w : Weekday) (spec : DaySpec) (date : Date) (y : ℤ) → IsCountedYear y → IsSameDay month w spec date
    → named_day spec y month ≡ rule_day date y
named_day-is month w spec date y years same =
    let here = is_named month w spec date y years same in
    here.named ∙ sym here.dated

date-in_year : (y : ℤ) (m d : ℕ) → IsCountedYear y → IsDate y m d → is_in_year (day y m d) y ≡ true
unfolding is_in_year
date-in_year y m d years date =
    let n = unsigned_abs (y +ℤ pos 11999) in
    let here = place_of y years in
    let there : y +ℤ pos 1 +ℤ pos 11999 ≡ pos (suc n) = omega (arith, signed) in
    let within = day-between y m d y y years years (omega (arith, signed)) (omega (arith, signed)) date in
    let next : day y m d <ℤ day (y +ℤ pos 1) 1 1 = omega (
      arith,
      signed,
      within.1,
      day-last_of_year y years,
      day-cycle y 1 1 n here,
      day-cycle (y +ℤ pos 1) 1 1 (suc n) there,
      cycle_days-suc y n here,
      days_through-two y,
      days_through-two (y +ℤ pos 1),
    ) in
    and_from _ _ (le_pass (day y 1 1) (day y m d) within.0) (lt_pass (day y m d) (day (y +ℤ pos 1) 1 1) next)

-- no such day lies in another year
pub never_outside : (rule : RuleInfo) (w : Weekday) (date : Date) (y : ℤ) → IsCountedYear y → IsSameDay rule.month w rule.day date
    → is_outside rule y ≡ false
unfolding is_outside
never_outside rule w date y years same =
    let here = is_named rule.month w rule.day date y years same in
    let inside = ap (λ k. is_in_year k y) here.named ∙ date-in_year y _ _ years here.in_month in
    ap (λ b. applies_to_year rule y && not b) inside ∙ and-false (applies_to_year rule y)
