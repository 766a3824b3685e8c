-- The changes that come at a local second of the last year come there.
use Rattle.std.proofs.Common.{◌≡◌, ℕ, ◌+◌, ◌*◌, ◌/◌, ◌<◌, ◌≤◌, Bool, true, false, cond, ◌++◌, [], ◌∷◌, length, map, nat_eq, nat_le, nat_lt, All, ℤ, pos, ◌+ℤ◌, ◌-ℤ◌, ◌*ℤ◌, ◌≤ℤ◌, ◌<ℤ◌, unsigned_abs, inl, inr, refl, sym, ap, ◌∙◌, subst, arith}
use Rattle.std.proofs.lemmas.{Bool.{cases_lt}, Bool.Decides.{nat_tests}, List.{length-map}, List.Elements.{All-append, All-cons, All-map, All-nil, All-weaker}}
use Rattle.std.specs.Int.{int_div_euclid, int_rem_euclid}
use Rattle.basics.specs.{Dates.{last_with, year_of, month_of, day_of}, DateLaws.{day_parts, year-between}, Days.{day, days_in_month, is_leap, days_in_year, days_after_zero, year_start, days_through, days_into_year, IsCountedYear, IsDate}}
use Rattle.basics.specs.{MonthLaws.{days_in_month-bounds}, SignedLaws.{signed, floored}, WeekdayLaws.{day-from_first, last_with_weekday, weekday_in_month, weekday_of-small}, Weekdays.{weekday_of}}
use Rattle.tz_posix.specs.{Days.{nth_weekday, rule_day}, InForce.{instant_in}, Ranges.{is_rule_date}, WeekdayLaws.{first_weekday-is}, declared.date.Date.TheVariants.{M}}
use Rattle.zone_tail.{specs.Changes.{change_with, changes_at, weeks}, specs.LastYear.{second_week, year_begin, year_end}, specs.Rules.{IsChange, time_of}, specs.declared.rule.Change.{Change}, proofs.TotalLemmas.{day-2099}}

-- a day is the last one with its weekday up to six days later
last_like_it : (y : ℤ) (m l i : ℕ) → IsCountedYear y → 1 ≤ i → i ≤ l → l < i + 7
    → last_with (λ d. nat_eq (weekday_of (day y m d)) (weekday_of (day y m i))) l ≡ i
last_like_it y m l i years some high near =
    last_with_weekday y m (weekday_of (day y m i)) l i years (weekday_of-small (day y m i)) some high near (sym (weekday_in_month y m i years some))

-- the week n names the day d
record Names (y : ℤ) (m d n : ℕ) : Type 0 where
  pub nth : nth_weekday y m n (weekday_of (day y m d)) ≡ d
  pub first : 1 ≤ n
  pub last : n ≤ 5

fifth : (y : ℤ) (m d : ℕ) → IsCountedYear y → IsDate y m d → days_in_month y m < d + 7 → Names y m d 5
unfolding nth_weekday
fifth y m d years date short = record {
  nth = last_like_it y m (days_in_month y m) d years date.first_day date.last_day short;
  first = omega arith;
  last = omega arith;
}

counted_week : (y : ℤ) (m d n : ℕ) → IsCountedYear y → IsDate y m d → n ≡ (d + 6) / 7 → n ≤ 4 → Names y m d n
unfolding nth_weekday
counted_week y m d n years date is few =
    let some = date.first_day in
    let plain : nat_eq n 5 ≡ false = grind (arith, nat_tests) in
    record {
      nth = rw plain (last_like_it y m (7 * n) d years some (omega arith) (omega arith));
      first = omega arith;
      last = omega arith;
    }

all_weeks : (y : ℤ) (m d : ℕ) → IsCountedYear y → IsDate y m d → All (Names y m d) (weeks (days_in_month y m) d)
all_weeks y m d years date =
    All-append (Names y m d) _ _
    (by_fifth (nat_lt (days_in_month y m) (d + 7)) (λ h. fifth y m d years date (grind (arith, nat_tests))))
    (by_count (nat_le ((d + 6) / 7) 4) (λ h. counted_week y m d ((d + 6) / 7) years date refl (grind (arith, nat_tests))))
  where
    by_fifth : (b : Bool) → (b ≡ true → Names y m d 5) → All (Names y m d) (cond b (5 ∷ []) [])
    by_fifth true h = All-cons (Names y m d) 5 [] (h refl) (All-nil (Names y m d))
    by_fifth false h = All-nil (Names y m d)

    by_count : (b : Bool) → (b ≡ true → Names y m d ((d + 6) / 7)) → All (Names y m d) (cond b ((d + 6) / 7 ∷ []) [])
    by_count true h = All-cons (Names y m d) ((d + 6) / 7) [] (h refl) (All-nil (Names y m d))
    by_count false h = All-nil (Names y m d)

-- a change that comes at a local second of the last year; from the second week on it is none of the first week of January
pub record Comes (local : ℤ) (change : Change) : Type 0 where
  pub sound : IsChange change
  pub late : second_week ≤ℤ local → 3 ≤ change.month + change.week
  pub instant : (offset : ℤ) → instant_in (pos 2099) offset (time_of change) ≡ local -ℤ offset

rule_date : (m n d : ℕ) → 1 ≤ m → m ≤ 12 → 1 ≤ n → n ≤ 5 → d < 7 → is_rule_date (M m n d) ≡ true
rule_date m n d a b c e f = grind (arith, nat_tests)

day-end : day (pos 2099) 12 31 ≡ pos 47481
unfolding is_leap days_in_year days_in_month days_after_zero year_start days_through days_into_year day
day-end = refl

last_counted : IsCountedYear (pos 2099)
last_counted = record { first = omega (arith, signed); last = omega (arith, signed) }

-- the date of a day of the last year
record IsDated (k : ℤ) : Type 0 where
  pub year : year_of k ≡ pos 2099
  pub date : IsDate (pos 2099) (month_of k) (day_of k)
  pub number : day (pos 2099) (month_of k) (day_of k) ≡ k

dated : (k : ℤ) → pos 47117 ≤ℤ k → k ≤ℤ pos 47481 → IsDated k
dated k low high =
    let parts = day_parts k (omega (arith, signed)) (omega (arith, signed)) in
    let number = parts.1.number in
    let within = year-between (year_of k) (month_of k) (day_of k) (pos 2099) (pos 2099) parts.0 last_counted last_counted parts.1.date
    (omega (arith, signed, day-2099, number)) (omega (arith, signed, day-end, number)) in
    let year : year_of k ≡ pos 2099 = omega (arith, signed, within.0, within.1) in
    record {
      year = year;
      date = subst (λ y. IsDate y (month_of k) (day_of k)) year parts.1.date;
      number = subst (λ y. day y (month_of k) (day_of k) ≡ k) year number;
    }

-- the first day of a month with a weekday is one of its first seven
first_is_early : (m n w d : ℕ) → w < 7 → n ≡ 1 → nth_weekday (pos 2099) m n w ≡ d → d ≤ 7
first_is_early m n w d small one is =
    let first = first_weekday-is (pos 2099) m w last_counted small in
    let same = ap (λ i. nth_weekday (pos 2099) m i w) one in
    omega (arith, first, same, is)

-- a day of the second week or later is of another month, or of another week of January
late_day : (k : ℤ) (n : ℕ) → IsDated k → pos 47124 ≤ℤ k → Names (pos 2099) (month_of k) (day_of k) n → 3 ≤ month_of k + n
late_day k n at low names =
    elim (cases_lt (month_of k) 2) [
      | inl few ↦ let january : month_of k ≡ 1 = omega (arith, at.date.first_month) in
          let number = day-from_first (pos 2099) 1 (day_of k) last_counted at.date.first_day in
          let same = ap (λ m. day (pos 2099) m (day_of k)) january in
          elim (cases_lt n 2) [
            | inl early ↦ let one : n ≡ 1 = omega (arith, names.first) in
                absurd (omega (
                  arith,
                  signed,
                  number,
                  same,
                  at.number,
                  day-2099,
                  low,
                  first_is_early (month_of k) n (weekday_of (day (pos 2099) (month_of k) (day_of k))) (day_of k) (weekday_of-small (day (pos 2099) (month_of k) (day_of k))) one names.nth,
                ))
            | inr later ↦ omega (arith, at.date.first_month)
          ]
      | inr many ↦ omega (arith, names.first)
    ]

comes : (local k : ℤ) (second n : ℕ) → IsDated k → local ≡ pos 86400 *ℤ k +ℤ pos second → second < 86400 → Names (pos 2099) (month_of k) (day_of k) n
    → Comes local (change_with k second n)
unfolding instant_in rule_day
comes local k second n at is few names =
    let week = ap weekday_of at.number in
    let nth : nth_weekday (pos 2099) (month_of k) n (weekday_of k) ≡ day_of k = ap (nth_weekday (pos 2099) (month_of k) n) (sym week) ∙ names.nth in
    record {
      sound = record {
        date = rule_date (month_of k) n (weekday_of k) at.date.first_month at.date.last_month names.first names.last (weekday_of-small k);
        second = few;
      };
      late = λ low. late_day k n at (omega (arith, signed, is, low)) names;
      instant = λ offset. by_day offset (day (pos 2099) (month_of k) (nth_weekday (pos 2099) (month_of k) n (weekday_of k))) (ap (day (pos 2099) (month_of k)) nth ∙ at.number);
    }
  where
    by_day : (offset d : ℤ) → d ≡ k → pos 86400 *ℤ d +ℤ pos second -ℤ offset ≡ local -ℤ offset
    by_day offset d e = omega (arith, signed, e, is)

dated_at : (local : ℤ) → year_begin ≤ℤ local → local <ℤ year_end → IsDated (int_div_euclid local (pos 86400))
dated_at local low high =
    let parts = floored local 86400 (omega arith) in
    dated (int_div_euclid local (pos 86400)) (omega (arith, signed, parts.0, parts.1, parts.2, low)) (omega (arith, signed, parts.0, parts.1, parts.2, high))

pub all_come : (local : ℤ) → year_begin ≤ℤ local → local <ℤ year_end → All (Comes local) (changes_at local)
unfolding changes_at
all_come local low high =
    let k = int_div_euclid local (pos 86400) in
    let second = unsigned_abs (int_rem_euclid local (pos 86400)) in
    let parts = floored local 86400 (omega arith) in
    let at = dated_at local low high in
    let all = all_weeks (pos 2099) (month_of k) (day_of k) last_counted at.date in
    subst (λ y. All (Comes local) (map (change_with k second) (weeks (days_in_month y (month_of k)) (day_of k)))) (sym at.year)
    (All-map (Comes local) (change_with k second) _ (All-weaker (Names (pos 2099) (month_of k) (day_of k)) (λ n. Comes local (change_with k second n)) (λ n names. comes local k second n at (omega (arith, signed, parts.0, parts.1, parts.2)) (omega (arith, signed, parts.1, parts.2)) names) _ all))

-- there is one
weeks_some : (days d : ℕ) → 1 ≤ d → d ≤ days → days ≤ 31 → 0 < length (weeks days d)
weeks_some days d first last few = by_tests (nat_lt days (d + 7)) (nat_le ((d + 6) / 7) 4) refl refl
  where
    by_tests : (b c : Bool) → nat_lt days (d + 7) ≡ b → nat_le ((d + 6) / 7) 4 ≡ c → 0 < length (cond b (5 ∷ []) [] ++ cond c ((d + 6) / 7 ∷ []) [])
    by_tests true c h k = omega arith
    by_tests false true h k = omega arith
    by_tests false false h k = absurd (grind (arith, nat_tests))

pub changes_some : (local : ℤ) → year_begin ≤ℤ local → local <ℤ year_end → 0 < length (changes_at local)
unfolding changes_at
changes_some local low high =
    let k = int_div_euclid local (pos 86400) in
    let second = unsigned_abs (int_rem_euclid local (pos 86400)) in
    let at = dated_at local low high in
    let some = weeks_some (days_in_month (pos 2099) (month_of k)) (day_of k) at.date.first_day at.date.last_day (days_in_month-bounds (pos 2099) (month_of k)).1 in
    let all = subst (λ y. 0 < length (weeks (days_in_month y (month_of k)) (day_of k))) (sym at.year) some in
    omega (arith, all, length-map (weeks (days_in_month (year_of k) (month_of k)) (day_of k)) (change_with k second))
