-- The nth day of a month with a weekday.
use Rattle.std.proofs.{Common.{◌≡◌, ℕ, ◌+◌, ◌-◌, ◌*◌, ◌%◌, ◌<◌, ◌≤◌, false, inl, inr, refl, arith, IsTrue, ℤ, nat_eq}, lemmas.Bool.{and_parts, cases_lt, leb-true}, lemmas.Bool.Decides.{nat_tests}}
use Rattle.basics.specs.{Days.{day, days_in_month, IsCountedYear, IsDate}, MonthLaws.{days_in_month-bounds}, WeekdayLaws.{last_with_weekday, weekday_of-small}, Weekdays.{weekday_of}}
use Rattle.tz_posix.specs.{Days.{nth_weekday, IsNth}, Ranges.{is_from, is_rule_date}, declared.date.Date.TheVariants.{M}}

pub first_weekday-is : (y : ℤ) (m w : ℕ) → IsCountedYear y → w < 7
    → nth_weekday y m 1 w ≡ 1 + (w + 7 - weekday_of (day y m 1)) % 7
unfolding nth_weekday
first_weekday-is y m w years small =
    let start = weekday_of-small (day y m 1) in
    last_with_weekday y m w 7 (1 + (w + 7 - weekday_of (day y m 1)) % 7) years small (omega arith) (omega arith) (omega arith) (omega arith)

nth_weekday-whole : (y : ℤ) (m n w i : ℕ) → IsCountedYear y → w < 7 → 1 ≤ n → n < 5 → i + 7 ≡ nth_weekday y m 1 w + 7 * n
    → nth_weekday y m n w ≡ i
unfolding nth_weekday
nth_weekday-whole y m n w i years small some few is =
    let start = weekday_of-small (day y m 1) in
    let first = first_weekday-is y m w years small in
    let plain : nat_eq n 5 ≡ false = grind (arith, nat_tests) in
    rw plain (last_with_weekday y m w (7 * n) i years small (omega arith) (omega arith) (omega arith) (omega arith))

nth_weekday-last : (y : ℤ) (m w i : ℕ) → IsCountedYear y → w < 7 → IsNth y m 5 (nth_weekday y m 1 w) i → nth_weekday y m 5 w ≡ i
unfolding nth_weekday
nth_weekday-last y m w i years small is =
    let start = weekday_of-small (day y m 1) in
    let first = first_weekday-is y m w years small in
    let f = nth_weekday y m 1 w in
    let month = days_in_month-bounds y m in
    elim (cases_lt (days_in_month y m) (f + 28)) [
      | inl less ↦ let e = is.fourth refl less in
          last_with_weekday y m w (days_in_month y m) i years small (omega arith) (omega arith) (omega arith) (omega arith)
      | inr more ↦ let e = is.fifth refl more in
          last_with_weekday y m w (days_in_month y m) i years small (omega arith) (omega arith) (omega arith) (omega arith)
    ]

pub nth_weekday-is : (y : ℤ) (m n w i : ℕ) → IsCountedYear y → w < 7 → 1 ≤ n → n ≤ 5 → IsNth y m n (nth_weekday y m 1 w) i
    → nth_weekday y m n w ≡ i
nth_weekday-is y m n w i years small some few is =
    elim (cases_lt n 5) [
      | inl less ↦ nth_weekday-whole y m n w i years small some less (is.whole less)
      | inr last ↦ let e : n ≡ 5 = omega arith in rw e (nth_weekday-last y m w i years small (rw e at is))
    ]

-- it is a day of the month
pub nth-inside : (y : ℤ) (m n f i : ℕ) → 1 ≤ f → f ≤ 7 → 1 ≤ n → n ≤ 5 → IsNth y m n f i → (1 ≤ i) × (i ≤ days_in_month y m)
nth-inside y m n f i first seven some few is =
    let month = days_in_month-bounds y m in
    elim (cases_lt n 5) [
      | inl less ↦ let e = is.whole less in (omega arith, omega arith)
      | inr last ↦ let five : n ≡ 5 = omega arith in
          elim (cases_lt (days_in_month y m) (f + 28)) [
            | inl short ↦ let e = is.fourth five short in (omega arith, omega arith)
            | inr long ↦ let e = is.fifth five long in (omega arith, omega arith)
          ]
    ]

-- the parts of a date in its ranges
pub record AreWeekdayParts (m n d : ℕ) : Type 0 where
  pub first_month : 1 ≤ m
  pub last_month : m ≤ 12
  pub first_week : 1 ≤ n
  pub last_week : n ≤ 5
  pub weekday : d < 7

pub weekday_parts : (m n d : ℕ) → IsTrue (is_rule_date (M m n d)) → AreWeekdayParts m n d
weekday_parts m n d h =
    let both = and_parts _ _ h in
    let first = and_parts (is_from 1 12 m) _ both.0 in
    let month = and_parts _ _ first.0 in
    let week = and_parts _ _ first.1 in
    record {
      first_month = leb-true _ _ month.0;
      last_month = leb-true _ _ month.1;
      first_week = leb-true _ _ week.0;
      last_week = leb-true _ _ week.1;
      weekday = omega (arith, leb-true _ _ both.1);
    }

-- the day that is so found
pub record IsFound (y : ℤ) (m n d i : ℕ) : Type 0 where
  pub date : IsDate y m i
  pub nth : nth_weekday y m n d ≡ i

pub found : (y : ℤ) (m n d f i : ℕ) → IsCountedYear y → IsTrue (is_rule_date (M m n d)) → f ≡ nth_weekday y m 1 d → 1 ≤ f → f ≤ 7
    → IsNth y m n f i → IsFound y m n d i
found y m n d f i years ranges first some seven is =
    let parts = weekday_parts m n d ranges in
    let inside = nth-inside y m n f i some seven parts.first_week parts.last_week is in
    record {
      date = record { first_month = parts.first_month; last_month = parts.last_month; first_day = inside.0; last_day = inside.1 };
      nth = nth_weekday-is y m n d i years parts.weekday parts.first_week parts.last_week (rw first at is);
    }
