-- What a rule of each year puts in force repeats after 400 years.
use Rattle.std.{proofs.Common.{◌≡◌, ℕ, ℤ, pos, neg_ℤ, cond, ◌+◌, ◌-◌, ◌*◌, ◌<◌, ◌==◌, ◌+ℤ◌, ◌-ℤ◌, ◌*ℤ◌, ◌≤ℤ◌, ◌<ℤ◌, int_le, int_lt, refl, sym, ap, ◌∙◌, arith, subst}, specs.Prelude.{◌&&◌, ◌||◌}, specs.Int.{int_div_euclid}, proofs.lemmas.Int.{ints}}
use Rattle.basics.specs.{DateLaws.{day_parts, day-range, year_of-day, year-between}, Dates.{last_with, year_of, month_of, day_of}, Days.{day, days_in_month, IsCountedYear, IsDate}, SignedLaws.{signed}, Weekdays.{weekday_of}}
use Rattle.zone_spans.specs.Cycle.{days_on, next_cycle, seconds_on}
use Rattle.tz_posix.specs.{Days.{julian_day, nth_weekday, rule_day}, InForce.{YearlyTime, instant_in, is_saving, is_within, moments_in, posix_total, year_at}, PosixZones.{Given, GivesByRule, Named}, declared.date.Date.{Date}}
use Rattle.tz_posix.specs.declared.date.Date.TheVariants.{J, N, M}
use Rattle.tz_tzif.specs.{FooterForce.{FooterZone, fixed, yearly, has_begun, held_at, is_footer_saving, is_saved, is_saved_by, saved_in, standard_total}, Places.{IsAskedYear, StandsForYear}, Years.{IsInYears}}

pub record IsAmong (first last y : ℤ) : Type 0 where
  pub from : first ≤ℤ y
  pub to : y ≤ℤ last

-- what stays as it is where all seconds are a cycle later
abbrev moments_on : ℤ × ℤ → ℤ × ℤ
moments_on m = (seconds_on m.0, seconds_on m.1)

le-on : (a s : ℤ) → int_le (seconds_on a) (seconds_on s) ≡ int_le a s
le-on a s = grind (arith, ints)

lt-on : (a s : ℤ) → int_lt (seconds_on a) (seconds_on s) ≡ int_lt a s
lt-on a s = grind (arith, ints)

within-on : (a b s : ℤ) → is_within (seconds_on a) (seconds_on b) (seconds_on s) ≡ is_within a b s
within-on a b s = λ i. (le-on a s i && lt-on s b i) || (lt-on b a i && (lt-on s b i || le-on a s i))

begun-on : (m : ℤ × ℤ) (s : ℤ) → has_begun (moments_on m) (seconds_on s) ≡ has_begun m s
begun-on m s = λ i. le-on m.0 s i || le-on m.1 s i

saved-on : (m : ℤ × ℤ) (s : ℤ) → is_saved (moments_on m) (seconds_on s) ≡ is_saved m s
saved-on m s = λ i. le-on m.0 s i && (lt-on s m.1 i || lt-on m.1 m.0 i)

by-on : (a h b e : ℤ × ℤ) (s : ℤ)
    → is_saved_by (moments_on a) (moments_on h) (moments_on b) (moments_on e) (seconds_on s) ≡ is_saved_by a h b e s
unfolding is_saved_by
by-on a h b e s = λ i.
    cond (begun-on a s i) (saved-on a s i)
    (cond (begun-on h s i) (saved-on h s i)
    (cond (begun-on b s i) (saved-on b s i) (lt-on e.1 e.0 i)))

-- the day of a second
day_on : (o s : ℤ) → int_div_euclid (seconds_on s +ℤ o) (pos 86400) ≡ days_on (int_div_euclid (s +ℤ o) (pos 86400))
day_on o s = omega (arith, signed)

-- the day of a second of counted years
record IsDayAmong (first last k : ℤ) : Type 0 where
  low : neg_ℤ (pos 4371953) ≤ℤ k
  high : k ≤ℤ pos 2933262
  years : IsAmong first last (year_of k)

day_among : (first last o s : ℤ) → IsCountedYear first → IsCountedYear last → IsInYears first last o s
    → IsDayAmong first last (int_div_euclid (s +ℤ o) (pos 86400))
day_among first last o s from to inside =
    let k = int_div_euclid (s +ℤ o) (pos 86400) in
    let begun : day first 1 1 ≤ℤ k = omega (arith, signed, inside.begun) in
    let ends : k ≤ℤ day last 12 31 = omega (arith, signed, inside.not_over) in
    let least = day-range first 1 1 from (omega arith) (omega arith) (omega arith) (omega arith) in
    let most = day-range last 12 31 to (omega arith) (omega arith) (omega arith) (omega arith) in
    let low : neg_ℤ (pos 4371953) ≤ℤ k = omega (arith, signed, least.0, begun) in
    let high : k ≤ℤ pos 2933262 = omega (arith, signed, most.1, ends) in
    let parts = day_parts k low high in
    let among = year-between (year_of k) (month_of k) (day_of k) first last parts.0 from to parts.1.date
    (omega (arith, signed, parts.1.number, begun)) (omega (arith, signed, parts.1.number, ends)) in
    record { low = low; high = high; years = record { from = among.0; to = among.1 } }

-- the laws of the calendar, from the year -11999 on
module _ (days : (y : ℤ) (m d : ℕ) → neg_ℤ (pos 11999) ≤ℤ y → day (next_cycle y) m d ≡ days_on (day y m d))
    (weekdays : (k : ℤ) → weekday_of (days_on k) ≡ weekday_of k)
    (months : (y : ℤ) (m : ℕ) → neg_ℤ (pos 11999) ≤ℤ y → days_in_month (next_cycle y) m ≡ days_in_month y m) where
  nth_weekday-on : (y : ℤ) (m n w : ℕ) → neg_ℤ (pos 11999) ≤ℤ y → nth_weekday (next_cycle y) m n w ≡ nth_weekday y m n w
  unfolding nth_weekday
  nth_weekday-on y m n w h =
      let same = λ (d : ℕ). ap weekday_of (days y m d h) ∙ weekdays (day y m d) in
      λ i. last_with (λ d. same d i == w) (cond (n == 5) (months y m h i) (7 * n))

  rule_day-on : (date : Date) (y : ℤ) → neg_ℤ (pos 11999) ≤ℤ y → rule_day date (next_cycle y) ≡ days_on (rule_day date y)
  unfolding rule_day julian_day
  rule_day-on (J n) y h = days y (month_of (pos (n - 1))) (day_of (pos (n - 1))) h
  rule_day-on (N n) y h = omega (arith, signed, days y 1 1 h)
  rule_day-on (M m n w) y h = ap (day (next_cycle y) m) (nth_weekday-on y m n w h) ∙ days y m (nth_weekday y m n w) h

  instant-on : (y o : ℤ) (time : YearlyTime) → neg_ℤ (pos 11999) ≤ℤ y → instant_in (next_cycle y) o time ≡ seconds_on (instant_in y o time)
  unfolding instant_in
  instant-on y o time h = omega (arith, signed, rule_day-on time.0 y h)

  moments-on : (standard saving : ℤ) (start end : YearlyTime) (y : ℤ) → neg_ℤ (pos 11999) ≤ℤ y
      → moments_in standard saving start end (next_cycle y) ≡ moments_on (moments_in standard saving start end y)
  moments-on standard saving start end y h = λ i. (instant-on y standard start h i, instant-on y saving end h i)

  -- ---- the year
  year-on : (k : ℤ) → neg_ℤ (pos 4371953) ≤ℤ k → k ≤ℤ pos 2933262 → IsAmong (neg_ℤ (pos 10000)) (pos 9600) (year_of k)
      → year_of (days_on k) ≡ next_cycle (year_of k)
  year-on k low high among =
      let parts = day_parts k low high in
      let later = days (year_of k) (month_of k) (day_of k) (omega (arith, signed, among.from)) in
      let number : days_on k ≡ day (next_cycle (year_of k)) (month_of k) (day_of k) = omega (arith, signed, parts.1.number, later) in
      let counted : IsCountedYear (next_cycle (year_of k)) = record { first = omega (arith, signed, among.from); last = omega (arith, signed, among.to) } in
      let date : IsDate (next_cycle (year_of k)) (month_of k) (day_of k) = record {
        first_month = parts.1.date.first_month;
        last_month = parts.1.date.last_month;
        first_day = parts.1.date.first_day;
        last_day = omega (arith, months (year_of k) (month_of k) (omega (arith, signed, among.from)), parts.1.date.last_day);
      } in
      ap year_of number ∙ year_of-day (next_cycle (year_of k)) (month_of k) (day_of k) counted date

  abbrev Years : ℤ → ℤ → Type 0
  Years o s = (year_at o (seconds_on s) ≡ next_cycle (year_at o s)) × IsAmong (neg_ℤ (pos 10000)) (pos 9600) (year_at o s)

  year_at-on : (o s : ℤ) → IsInYears (neg_ℤ (pos 10000)) (pos 9600) o s → Years o s
  unfolding year_at
  year_at-on o s inside =
      let first : IsCountedYear (neg_ℤ (pos 10000)) = record { first = omega (arith, ints); last = omega (arith, ints) } in
      let last : IsCountedYear (pos 9600) = record { first = omega (arith, ints); last = omega (arith, ints) } in
      let day = day_among (neg_ℤ (pos 10000)) (pos 9600) o s first last inside in
      (ap year_of (day_on o s) ∙ year-on (int_div_euclid (s +ℤ o) (pos 86400)) day.low day.high day.years, day.years)

  -- ---- strings
  module _ (standard saving : ℤ) (start end : YearlyTime) (s : ℤ) (inside : IsInYears (neg_ℤ (pos 10000)) (pos 9600) standard s) where
    pub is_saving-on : is_saving standard saving start end (seconds_on s) ≡ is_saving standard saving start end s
    unfolding is_saving
    is_saving-on =
        let y = year_at standard s in
        let year = year_at-on standard s inside in
        let moments = moments-on standard saving start end y (omega (arith, ints, year.1.from)) in
        ap (λ z. let m = moments_in standard saving start end z in is_within m.0 m.1 (seconds_on s)) year.0
        ∙ ap (λ (m : ℤ × ℤ). is_within m.0 m.1 (seconds_on s)) moments
        ∙ within-on (instant_in y standard start) (instant_in y saving end) s

    pub string_total-on : posix_total standard saving start end (seconds_on s) ≡ posix_total standard saving start end s
    unfolding posix_total
    string_total-on = ap (λ b. cond b saving standard) is_saving-on

  pub given-on : (standard saving : Named) (start end : YearlyTime) (s : ℤ) (given : Given) → IsInYears (neg_ℤ (pos 10000)) (pos 9600) standard.total s
      → GivesByRule standard saving start end s given → GivesByRule standard saving start end (seconds_on s) given
  given-on standard saving start end s given inside gives = record {
    total = gives.total ∙ sym (string_total-on standard.total saving.total start end s inside);
    saves = gives.saves ∙ sym (is_saving-on standard.total saving.total start end s inside);
    named = gives.named;
  }

  -- ---- footers
  module _ (standard saving : ℤ) (start end : YearlyTime) where
    abbrev moments : ℤ → ℤ × ℤ
    moments = moments_in standard saving start end

    pub saved_in-on : (y s : ℤ) → neg_ℤ (pos 10402) ≤ℤ y → saved_in moments (next_cycle y) (seconds_on s) ≡ saved_in moments y s
    saved_in-on y s from =
        let moved : next_cycle y +ℤ pos 1 ≡ next_cycle (y +ℤ pos 1) = omega (arith, ints) in
        let moved_back : next_cycle y -ℤ pos 1 ≡ next_cycle (y -ℤ pos 1) = omega (arith, ints) in
        let moved_two : next_cycle y -ℤ pos 2 ≡ next_cycle (y -ℤ pos 2) = omega (arith, ints) in
        let after = ap moments moved ∙ moments-on standard saving start end (y +ℤ pos 1) (omega (arith, ints, from)) in
        let here = moments-on standard saving start end y (omega (arith, ints, from)) in
        let before = ap moments moved_back ∙ moments-on standard saving start end (y -ℤ pos 1) (omega (arith, ints, from)) in
        let before_two = ap moments moved_two ∙ moments-on standard saving start end (y -ℤ pos 2) (omega (arith, ints, from)) in
        (λ i. is_saved_by (after i) (here i) (before i) (before_two i) (seconds_on s))
        ∙ by-on (moments (y +ℤ pos 1)) (moments y) (moments (y -ℤ pos 1)) (moments (y -ℤ pos 2)) s

    is_footer_saving-on : (s : ℤ) → IsInYears (neg_ℤ (pos 10000)) (pos 9600) standard s
        → is_footer_saving standard saving start end (seconds_on s) ≡ is_footer_saving standard saving start end s
    unfolding is_footer_saving
    is_footer_saving-on s inside =
        let year = year_at-on standard s inside in
        ap (λ y. saved_in moments y (seconds_on s)) year.0 ∙ saved_in-on (year_at standard s) s (omega (arith, ints, year.1.from))

  pub held-on : (zone : FooterZone) (s : ℤ) → IsInYears (neg_ℤ (pos 10000)) (pos 9600) (standard_total zone) s → held_at zone (seconds_on s) ≡ held_at zone s
  unfolding held_at
  held-on (fixed kind) s inside = refl
  held-on (yearly standard saving start end) s inside =
      ap (λ b. cond b saving standard) (is_footer_saving-on standard.utoff saving.utoff start end s inside)

  -- ---- years in place of others
  later_year : (y : ℤ) → neg_ℤ (pos 11999) ≤ℤ (y +ℤ pos 1) → pos 86400 *ℤ day (next_cycle y +ℤ pos 1) 1 1 ≡ pos 86400 *ℤ day (y +ℤ pos 1) 1 1 +ℤ pos 12622780800
  later_year y from =
      let moved : next_cycle y +ℤ pos 1 ≡ next_cycle (y +ℤ pos 1) = omega (arith, ints) in
      let is = ap (λ z. day z 1 1) moved ∙ days (y +ℤ pos 1) 1 1 from in
      omega (arith, signed, is)

  pub for_earlier : (y : ℤ) → IsCountedYear y → StandsForYear y (next_cycle y) (pos 12622780800)
  for_earlier y years = record {
    gives = λ standard saving start end t. saved_in-on standard saving start end y t (omega (arith, ints, years.first));
    ends = later_year y (omega (arith, ints, years.first));
  }

  pub for_later : (y : ℤ) → pos 9999 <ℤ y → StandsForYear y (y -ℤ pos 400) (neg_ℤ (pos 12622780800))
  for_later y late =
      let z = y -ℤ pos 400 in
      let year : next_cycle z ≡ y = omega (arith, ints) in
      record {
        gives = λ standard saving start end t.
            let back : seconds_on (t +ℤ neg_ℤ (pos 12622780800)) ≡ t = omega (arith, ints) in
            sym (saved_in-on standard saving start end z (t +ℤ neg_ℤ (pos 12622780800)) (omega (arith, ints, late)))
            ∙ (λ i. saved_in (moments_in standard saving start end) (year i) (back i));
        ends =
            let is = ap (λ x. pos 86400 *ℤ day (x +ℤ pos 1) 1 1) (sym year) ∙ later_year z (omega (arith, ints, late)) in
            omega (arith, signed, is);
      }

pub for_itself : (y : ℤ) → StandsForYear y y (pos 0)
for_itself y = record {
  gives = λ standard saving start end t. ap (saved_in (moments_in standard saving start end) y) (omega (arith, ints));
  ends = omega (arith, ints);
}
