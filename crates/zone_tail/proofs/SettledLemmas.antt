-- The rule of the last year decides by itself from the last entry on.
use Rattle.std.proofs.{Common.{◌≡◌, ℕ, zero, suc, ◌+◌, ◌-◌, ◌*◌, ◌<◌, ◌≤◌, Bool, true, false, ◌||◌, List, [], ◌∷◌, length, slice_index_or, ℤ, pos, ◌+ℤ◌, ◌-ℤ◌, ◌≤ℤ◌, ◌<ℤ◌, int_le, inl, inr, refl, ap, arith}, lemmas.Bool.{and_parts, cases_lt}, lemmas.Int.{ints}}
use Rattle.std.specs.List.{list_all}
use Rattle.basics.specs.{ComparisonLaws.{le_fail, le_from_pass, le_pass}, DateLaws.{day-into_year}, Days.{day, days_in_month, IsCountedYear}, MonthLaws.{days_through-rise, days_through-two}, SignedLaws.{signed}, WeekdayLaws.{day-from_first}}
use Rattle.zone_spans.specs.Entries.{Entry}
use Rattle.tz_posix.specs.{DayLaws.{day-2100, days_into_year-is}, Days.{nth_weekday, rule_day}, InForce.{instant_in}, WeekdayLaws.{first_weekday-is, nth_weekday-is, weekday_parts}}
use Rattle.zone_tail.{specs.LastYear.{year_begin, year_end}, specs.Rules.{date_of, IsChange, time_of}, specs.Settled.{IsOfLastYear}, specs.declared.rule.Change.{Change}, proofs.TotalLemmas.{in_last_year}}
use Rattle.civil_base.specs.{RangeLaws.{offset_greatest, offset_least}, Ranges.{IsOffset}}

-- where the nth day with a weekday lies at least
record IsLeast (n i : ℕ) : Type 0 where
  pub some : 1 ≤ i
  pub later : 2 ≤ n → 8 ≤ i

whole_least : (y : ℤ) (m n w : ℕ) → IsCountedYear y → w < 7 → 1 ≤ n → n < 5 → IsLeast n (nth_weekday y m n w)
whole_least y m n w years small some few =
    let first = first_weekday-is y m w years small in
    let f = nth_weekday y m 1 w in
    let is = nth_weekday-is y m n w (f + 7 * n - 7) years small some (omega arith) (record {
      whole = λ less. omega (arith, first);
      fifth = λ five. absurd (omega arith);
      fourth = λ five. absurd (omega arith);
    }) in
    record { some = omega (arith, first, is); later = λ two. omega (arith, first, is) }

last_least : (y : ℤ) (m w : ℕ) → IsCountedYear y → w < 7 → IsLeast 5 (nth_weekday y m 5 w)
last_least y m w years small =
    let first = first_weekday-is y m w years small in
    let f = nth_weekday y m 1 w in
    elim (cases_lt (days_in_month y m) (f + 28)) [
      | inl short ↦ let is = nth_weekday-is y m 5 w (f + 21) years small (omega arith) (omega arith) (record {
        whole = λ less. absurd (omega arith);
        fifth = λ five long. absurd (omega arith);
        fourth = λ five less. refl;
      }) in
          record { some = omega (arith, is); later = λ two. omega (arith, is) }
      | inr long ↦ let is = nth_weekday-is y m 5 w (f + 28) years small (omega arith) (omega arith) (record {
        whole = λ less. absurd (omega arith);
        fifth = λ five more. refl;
        fourth = λ five less. absurd (omega arith);
      }) in
          record { some = omega (arith, is); later = λ two. omega (arith, is) }
    ]

nth_least : (y : ℤ) (m n w : ℕ) → IsCountedYear y → w < 7 → 1 ≤ n → n ≤ 5 → IsLeast n (nth_weekday y m n w)
nth_least y m n w years small some few =
    elim (cases_lt n 5) [
      | inl less ↦ whole_least y m n w years small some less
      | inr last ↦ let e : n ≡ 5 = omega arith in rw e (last_least y m w years small)
    ]

-- a rule's day lies in its year; but for those of the first week of January a week after its beginning, or more
record IsFrom (y : ℤ) (change : Change) : Type 0 where
  pub begun : day y 1 1 ≤ℤ rule_day (date_of change) y
  pub later : 3 ≤ change.month + change.week → (day y 1 1 +ℤ pos 7) ≤ℤ rule_day (date_of change) y

from : (y : ℤ) (change : Change) → IsCountedYear y → IsChange change → IsFrom y change
unfolding rule_day
from y change years is =
    let m = change.month in
    let parts = weekday_parts m change.week change.weekday is.date in
    let i = nth_weekday y m change.week change.weekday in
    let least = nth_least y m change.week change.weekday years parts.weekday parts.first_week parts.last_week in
    let number = day-from_first y m i years least.some in
    let first = day-into_year y m 1 years in
    let into = days_into_year-is y m 1 in
    let two = days_through-two y in
    record {
      begun = omega (arith, signed, number, first);
      later = λ late. elim (cases_lt m 2) [
        | inl one ↦ omega (arith, signed, number, first, least.later (omega (arith, parts.first_month)))
        | inr more ↦ omega (arith, signed, number, first, into, two, days_through-rise y 1 (m - 1) (omega arith))
      ];
    }

counted_next : IsCountedYear (pos 2100)
counted_next = record { first = omega (arith, signed); last = omega (arith, signed) }

-- entry i has come
pub begun_entry : (d : Entry) (entries : List Entry) (s : ℤ) (i : ℕ) → list_all (λ (entry : Entry). int_le entry.0 s) entries ≡ true → i < length entries
    → (slice_index_or entries i d).0 ≤ℤ s
begun_entry d [] s i h l = absurd (omega arith)
begun_entry d (e ∷ es) s zero h l = le_from_pass e.0 s (and_parts (int_le e.0 s) _ h).0
begun_entry d (e ∷ es) s (suc i) h l = begun_entry d es s i (and_parts (int_le e.0 s) _ h).1 (omega arith)

module _ (standard saving : ℤ) (start end : Change) (s : ℤ) (is_start : IsChange start) (is_end : IsChange end)
    (standard_small : IsOffset standard) (saving_small : IsOffset saving) (not_over : s <ℤ (year_end -ℤ standard)) where
  next_start : int_le (instant_in (pos 2100) standard (time_of start)) s ≡ false
  unfolding instant_in
  next_start = le_fail _ s (omega (arith, ints, (from (pos 2100) start counted_next is_start).begun, day-2100))

  next_end : 3 ≤ end.month + end.week → int_le (instant_in (pos 2100) saving (time_of end)) s ≡ false
  unfolding instant_in
  next_end late =
      le_fail _ s (omega (arith, ints, (from (pos 2100) end counted_next is_end).later late, day-2100, offset_least standard standard_small, offset_greatest saving saving_small))

  neither : (a b : Bool) → a ≡ false → b ≡ false → (a || b) ≡ false
  neither a b e f = λ i. e i || f i

  pub settled : (year_begin -ℤ standard) ≤ℤ s → instant_in (pos 2099) standard (time_of start) ≤ℤ s → 3 ≤ end.month + end.week
      → IsOfLastYear standard saving (time_of start) (time_of end) s
  settled low begun late = record {
    year = in_last_year standard s low not_over;
    begun = ap (λ b. b || int_le (instant_in (pos 2099) saving (time_of end)) s) (le_pass _ s begun);
    next = neither _ _ next_start (next_end late);
  }
