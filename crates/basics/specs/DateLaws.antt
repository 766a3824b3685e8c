-- The parts of a date are found again from its day number.
use Rattle.std.proofs.{Common.{refl, ◌≡◌, ℕ, zero, suc, ◌-◌, ◌<◌, ◌≤◌, inl, inr, Bool, true, false, sym, ap, ◌∙◌, arith, ℤ, pos, neg_ℤ, ◌+ℤ◌, ◌-ℤ◌, ◌≤ℤ◌, ◌<ℤ◌, int_le, unsigned_abs}, lemmas.Int.{by_lt_z}, lemmas.Bool.{cases_lt, cases_Bool}}
use Rattle.basics.specs.{Days.{days_in_year, days_through, days_in_month, days_into_year, day, IsDate, IsCountedYear}, Dates.{last_with, year_of, month_of, day_of}, SignedLaws.{signed, natural}, ComparisonLaws.{le_pass, le_fail, le_from_pass, le_from_fail}}
use Rattle.basics.specs.{YearLaws.{day-cycle, cycle_days-rise, cycle_days-suc}, MonthLaws.{days_through-rise, days_through-step, days_through-all, days_through-two, days_in_month-bounds, days_in_month-december, days_in_year-bounds}}

last_with-pass : (test : ℕ → Bool) (n : ℕ) → test (suc n) ≡ true → last_with test (suc n) ≡ suc n
unfolding last_with
last_with-pass test n h = rw h

last_with-fail : (test : ℕ → Bool) (n : ℕ) → test (suc n) ≡ false → last_with test (suc n) ≡ last_with test n
unfolding last_with
last_with-fail test n h = rw h

-- the greatest number that passes is the one above which none passes
pub last_with-is : (test : ℕ → Bool) (n i : ℕ) → i ≤ n → (1 ≤ i → test i ≡ true) → ((j : ℕ) → i < j → j ≤ n → test j ≡ false)
    → last_with test n ≡ i
last_with-is test zero i high passes above = unfold last_with in omega arith
last_with-is test (suc n) i high passes above =
    elim (cases_lt i (suc n)) [
      | inl below ↦ last_with-fail test n (above (suc n) below (omega arith))
          ∙ last_with-is test n i (omega arith) passes (λ j p q. above j p (omega arith))
      | inr same ↦ let e : i ≡ suc n = omega arith in last_with-pass test n (rw (← e) (passes (omega arith))) ∙ sym e
    ]

-- the place of the year among those from -11999 on
abbrev pub IsPlace : ℤ → ℕ → Type 0
IsPlace y n = y +ℤ pos 11999 ≡ pos n

pub place_of : (y : ℤ) → IsCountedYear y → IsPlace y (unsigned_abs (y +ℤ pos 11999))
place_of y h = natural (y +ℤ pos 11999) (omega (arith, signed))

-- a day of a year is followed by the first day of each later year
before_later_year : (y z : ℤ) (m d : ℕ) → IsCountedYear y → IsDate y m d → y <ℤ z → z ≤ℤ pos 10001 → day y m d <ℤ day z 1 1
before_later_year y z m d years date later last =
    let here = place_of y years in
    let n = unsigned_abs (y +ℤ pos 11999) in
    let l = unsigned_abs (z +ℤ pos 11999) in
    let there : IsPlace z l = natural (z +ℤ pos 11999) (omega (arith, signed)) in
    omega (
      arith,
      signed,
      day-cycle y m d n here,
      day-cycle z 1 1 l there,
      cycle_days-suc y n here,
      cycle_days-rise (suc n) l (omega (arith, signed)),
      days_through-all y,
      days_through-step y m date.first_month,
      days_through-rise y m 12 date.last_month,
      days_through-two z,
    )

after_year_start : (y : ℤ) (m d : ℕ) → IsCountedYear y → IsDate y m d → day y 1 1 ≤ℤ day y m d
after_year_start y m d years date =
    let n = unsigned_abs (y +ℤ pos 11999) in
    let here = place_of y years in
    omega (arith, signed, day-cycle y m d n here, day-cycle y 1 1 n here, days_through-two y)

before_later_month : (y : ℤ) (m d later : ℕ) → IsCountedYear y → IsDate y m d → m < later → day y m d <ℤ day y later 1
before_later_month y m d later years date h =
    let n = unsigned_abs (y +ℤ pos 11999) in
    let here = place_of y years in
    omega (
      arith,
      signed,
      day-cycle y m d n here,
      day-cycle y later 1 n here,
      days_through-step y m date.first_month,
      days_through-rise y m (later - 1) (omega arith),
    )

from_day : (y : ℤ) (m d e : ℕ) → IsCountedYear y → 1 ≤ d → 1 ≤ e → day y m d +ℤ pos e ≡ day y m e +ℤ pos d
from_day y m d e years h k =
    let n = unsigned_abs (y +ℤ pos 11999) in
    let here = place_of y years in
    omega (arith, signed, day-cycle y m d n here, day-cycle y m e n here)

-- the year that `year_of` numbers n
abbrev numbered : ℕ → ℤ
numbered n = pos n -ℤ pos 10000

pub year_of-day : (y : ℤ) (m d : ℕ) → IsCountedYear y → IsDate y m d → year_of (day y m d) ≡ y
unfolding year_of
year_of-day y m d years date =
    let k = day y m d in
    let i = unsigned_abs (y +ℤ pos 10000) in
    let whole : y +ℤ pos 10000 ≡ pos i = natural (y +ℤ pos 10000) (omega (arith, signed)) in
    let place : numbered i ≡ y = omega (arith, signed) in
    let found : last_with (λ n. int_le (day (numbered n) 1 1) k) 20000 ≡ i =
    last_with-is (λ n. int_le (day (numbered n) 1 1) k) 20000 i (omega (arith, signed))
    (λ _. le_pass (day (numbered i) 1 1) k (rw place (after_year_start y m d years date)))
    (λ j p q. le_fail (day (numbered j) 1 1) k (before_later_year y (numbered j) m d years date (omega (arith, signed)) (omega (
      arith,
      signed,
    )))) in
    rw found place

month_in : ℤ → ℤ → ℕ
month_in y k = last_with (λ m. int_le (day y m 1) k) 12

pub month_of-day : (y : ℤ) (m d : ℕ) → IsCountedYear y → IsDate y m d → month_of (day y m d) ≡ m
unfolding month_of month_in
month_of-day y m d years date =
    let k = day y m d in
    let from_first = from_day y m d 1 years date.first_day (omega arith) in
    ap (λ z. month_in z k) (year_of-day y m d years date)
    ∙ last_with-is (λ n. int_le (day y n 1) k) 12 m date.last_month
    (λ _. le_pass (day y m 1) k (omega (arith, signed, from_first)))
    (λ j p q. le_fail (day y j 1) k (before_later_month y m d j years date p))

day_in : ℤ → ℕ → ℤ → ℕ
day_in y m k = last_with (λ d. int_le (day y m d) k) 31

pub day_of-day : (y : ℤ) (m d : ℕ) → IsCountedYear y → IsDate y m d → day_of (day y m d) ≡ d
unfolding day_of day_in
day_of-day y m d years date =
    let k = day y m d in
    ap (λ z. day_in z (month_of k) k) (year_of-day y m d years date)
    ∙ ap (λ n. day_in y n k) (month_of-day y m d years date)
    ∙ last_with-is (λ n. int_le (day y m n) k) 31 d (omega (arith, date.last_day, days_in_month-bounds y m))
    (λ _. le_pass (day y m d) k (omega (arith, signed)))
    (λ j p q. le_fail (day y m j) k (omega (arith, signed, from_day y m d j years date.first_day (omega arith))))

-- a date lies as far past its year's first day as the days before its month and before it in that say
pub day-into_year : (y : ℤ) (m d : ℕ) → IsCountedYear y → day y m d ≡ day y 1 1 +ℤ pos (days_into_year y m d)
unfolding days_into_year
day-into_year y m d years =
    let n = unsigned_abs (y +ℤ pos 11999) in
    let here = place_of y years in
    omega (arith, signed, day-cycle y m d n here, day-cycle y 1 1 n here, days_through-two y)

-- 31 December is the last of its year's days
pub day-last_of_year : (y : ℤ) → IsCountedYear y → day y 12 31 +ℤ pos 1 ≡ day y 1 1 +ℤ pos (days_in_year y)
day-last_of_year y years =
    let n = unsigned_abs (y +ℤ pos 11999) in
    let here = place_of y years in
    omega (
      arith,
      signed,
      day-cycle y 12 31 n here,
      day-cycle y 1 1 n here,
      days_through-two y,
      days_through-all y,
      days_through-step y 12 (omega arith),
      days_in_month-december y,
    )

-- the days of a year before a date of it are fewer than the year has
pub days_into_year-bound : (y : ℤ) (m d : ℕ) → IsDate y m d → days_into_year y m d < days_in_year y
unfolding days_into_year
days_into_year-bound y m d date =
    omega (
      arith,
      days_through-all y,
      days_through-step y m date.first_month,
      days_through-rise y m 12 date.last_month,
      date.first_day,
      date.last_day,
    )

-- a day number in a counted year, and one more month past it
pub day-range : (y : ℤ) (m d : ℕ) → IsCountedYear y → 1 ≤ m → m ≤ 12 → 1 ≤ d → d ≤ 31
    → (neg_ℤ (pos 4371953) ≤ℤ day y m d) × (day y m d ≤ℤ pos 2933262)
day-range y m d years first last low high =
    let n = unsigned_abs (y +ℤ pos 11999) in
    let here = place_of y years in
    let december = days_through-step y 12 (omega arith) in (
      omega (arith, signed, day-cycle y m d n here, cycle_days-rise 1999 n (omega (arith, signed))),
      omega (
        arith,
        signed,
        day-cycle y m d n here,
        cycle_days-rise n 21999 (omega (arith, signed)),
        days_through-rise y (m - 1) 11 (omega arith),
        days_through-all y,
        days_in_month-december y,
        days_in_year-bounds y,
      ),
    )

-- a date is the only one of its day number
pub parts-of_day : (k y : ℤ) (m d : ℕ) → day y m d ≡ k → IsCountedYear y → IsDate y m d
    → (y ≡ year_of k) × (m ≡ month_of k) × (d ≡ day_of k)
parts-of_day k y m d e years date = (
  sym (year_of-day y m d years date) ∙ ap year_of e,
  sym (month_of-day y m d years date) ∙ ap month_of e,
  sym (day_of-day y m d years date) ∙ ap day_of e,
)

-- ---- and each day number is that of its parts
last_with-bound : (test : ℕ → Bool) (n : ℕ) → last_with test n ≤ n
last_with-bound test zero = unfold last_with in omega arith
last_with-bound test (suc n) =
    elim (cases_Bool (test (suc n))) [
      | inl passes ↦ omega (arith, last_with-pass test n passes)
      | inr fails ↦ omega (arith, last_with-fail test n fails, last_with-bound test n)
    ]

last_with-passes : (test : ℕ → Bool) (n : ℕ) → 1 ≤ last_with test n → test (last_with test n) ≡ true
last_with-passes test zero h = absurd (omega (arith, last_with-bound test zero))
last_with-passes test (suc n) h =
    elim (cases_Bool (test (suc n))) [
      | inl passes ↦ rw (last_with-pass test n passes) passes
      | inr fails ↦ let e = last_with-fail test n fails in rw e (last_with-passes test n (omega arith))
    ]

last_with-above : (test : ℕ → Bool) (n j : ℕ) → last_with test n < j → j ≤ n → test j ≡ false
last_with-above test zero j h k = absurd (omega arith)
last_with-above test (suc n) j h k =
    elim (cases_Bool (test (suc n))) [
      | inl passes ↦ absurd (omega (arith, last_with-pass test n passes))
      | inr fails ↦ elim (cases_lt j (suc n)) [
        | inl below ↦ last_with-above test n j (omega (arith, last_with-fail test n fails)) (omega arith)
        | inr last ↦ let e : j ≡ suc n = omega arith in rw e fails
      ]
    ]

-- the year of a day begins at or before it, and the next year after it
pub record IsYearOf (y k : ℤ) : Type 0 where
  pub counted : IsCountedYear y
  pub begun : day y 1 1 ≤ℤ k
  pub next : k <ℤ day (y +ℤ pos 1) 1 1

pub year_of-is : (k : ℤ) → neg_ℤ (pos 4371953) ≤ℤ k → k ≤ℤ pos 2933262 → IsYearOf (year_of k) k
unfolding year_of
year_of-is k low high =
    let test = λ (n : ℕ). int_le (day (numbered n) 1 1) k in
    let i = last_with test 20000 in
    let bound = last_with-bound test 20000 in
    let first : numbered 0 +ℤ pos 11999 ≡ pos 1999 = refl in
    let last : numbered 20000 +ℤ pos 1 +ℤ pos 11999 ≡ pos 22000 = refl in
    let following : numbered (suc i) ≡ numbered i +ℤ pos 1 = omega (arith, signed) in
    record {
      counted = record { first = omega (arith, signed); last = omega (arith, signed) };
      begun = elim (cases_lt 0 i) [
        | inl some ↦ le_from_pass (day (numbered i) 1 1) k (last_with-passes test 20000 some)
        | inr none ↦ let e : i ≡ 0 = omega arith in rw e (omega (
          arith,
          signed,
          day-cycle (numbered 0) 1 1 1999 first,
          days_through-two (numbered 0),
        ))
      ];
      next = elim (cases_lt i 20000) [
        | inl more ↦ rw (← following) (le_from_fail (day (numbered (suc i)) 1 1) k
            (last_with-above test 20000 (suc i) (omega arith) (omega arith)))
        | inr all ↦ let e : i ≡ 20000 = omega arith in rw e (omega (
          arith,
          signed,
          day-cycle (numbered 20000 +ℤ pos 1) 1 1 22000 last,
          days_through-two (numbered 20000 +ℤ pos 1),
        ))
      ];
    }

pub record IsMonthOf (y : ℤ) (m : ℕ) (k : ℤ) : Type 0 where
  pub first : 1 ≤ m
  pub last : m ≤ 12
  pub begun : day y m 1 ≤ℤ k
  pub next : k <ℤ day y (suc m) 1

month_in-is : (y k : ℤ) → IsYearOf y k → IsMonthOf y (month_in y k) k
unfolding month_in
month_in-is y k year =
    let test = λ (n : ℕ). int_le (day y n 1) k in
    let m = last_with test 12 in
    let bound = last_with-bound test 12 in
    let some : 1 ≤ m = elim (cases_lt m 1) [
      | inl none ↦ absurd (omega (arith, signed, year.begun, le_from_fail (day y 1 1) k (last_with-above test 12 1 none (omega arith))))
      | inr some ↦ some
    ] in
    let n = unsigned_abs (y +ℤ pos 11999) in
    let here = place_of y year.counted in
    let there : y +ℤ pos 1 +ℤ pos 11999 ≡ pos (suc n) = omega (arith, signed) in
    record {
      first = some;
      last = bound;
      begun = le_from_pass (day y m 1) k (last_with-passes test 12 some);
      next = elim (cases_lt m 12) [
        | inl more ↦ le_from_fail (day y (suc m) 1) k (last_with-above test 12 (suc m) (omega arith) (omega arith))
        | inr all ↦ let e : m ≡ 12 = omega arith in rw e (omega (
          arith,
          signed,
          year.next,
          day-cycle y 13 1 n here,
          day-cycle (y +ℤ pos 1) 1 1 (suc n) there,
          cycle_days-suc y n here,
          days_through-all y,
          days_through-two (y +ℤ pos 1),
        ))
      ];
    }

pub record IsDayOf (y : ℤ) (m d : ℕ) (k : ℤ) : Type 0 where
  pub date : IsDate y m d
  pub number : day y m d ≡ k

day_in-is : (y : ℤ) (m : ℕ) (k : ℤ) → IsYearOf y k → IsMonthOf y m k → IsDayOf y m (day_in y m k) k
unfolding day_in
day_in-is y m k year month =
    let test = λ (n : ℕ). int_le (day y m n) k in
    let d = last_with test 31 in
    let bound = last_with-bound test 31 in
    let some : 1 ≤ d = elim (cases_lt d 1) [
      | inl none ↦ absurd (omega (arith, signed, month.begun, le_from_fail (day y m 1) k (last_with-above test 31 1 none (omega arith))))
      | inr some ↦ some
    ] in
    let n = unsigned_abs (y +ℤ pos 11999) in
    let here = place_of y year.counted in
    let begun = le_from_pass (day y m d) k (last_with-passes test 31 some) in
    let all = days_through-step y m month.first in
    let here_first = day-cycle y m 1 n here in
    let back : suc m - 1 ≡ m = omega arith in
    let next_month : k <ℤ (day y m 1 +ℤ pos (days_in_month y m)) = omega (
      arith,
      signed,
      month.next,
      day-cycle y (suc m) 1 n here,
      ap (days_through y) back,
    ) in
    let number : day y m d ≡ k = elim (cases_lt d 31) [
      | inl more ↦ omega (
        arith,
        signed,
        le_from_fail (day y m (suc d)) k (last_with-above test 31 (suc d) (omega arith) (omega arith)),
        day-cycle y m d n here,
        day-cycle y m (suc d) n here,
      )
      | inr whole ↦ omega (arith, signed, day-cycle y m d n here, days_in_month-bounds y m)
    ] in
    record {
      date = record {
        first_month = month.first;
        last_month = month.last;
        first_day = some;
        last_day = omega (arith, signed, day-cycle y m d n here);
      };
      number = number;
    }

-- the parts of a day number are a date, and that date has the number
pub day_parts : (k : ℤ) → neg_ℤ (pos 4371953) ≤ℤ k → k ≤ℤ pos 2933262
    → IsCountedYear (year_of k) × IsDayOf (year_of k) (month_of k) (day_of k) k
unfolding month_of day_of month_in day_in
day_parts k low high =
    let year = year_of-is k low high in
    let month = month_in-is (year_of k) k year in
    (year.counted, day_in-is (year_of k) (month_of k) k year month)

-- 31 December is a date of every year
pub last_date : (y : ℤ) → IsDate y 12 31
last_date y = record {
  first_month = omega arith;
  last_month = omega arith;
  first_day = omega arith;
  last_day = omega (arith, days_in_month-december y);
}

-- the dates of the years from first to last lie between the first 1 January and the last 31 December
pub day-between : (y : ℤ) (m d : ℕ) (first last : ℤ) → IsCountedYear first → IsCountedYear last → first ≤ℤ y → y ≤ℤ last → IsDate y m d
    → (day first 1 1 ≤ℤ day y m d) × (day y m d ≤ℤ day last 12 31)
day-between y m d first last from to low high date =
    let years : IsCountedYear y = record { first = omega (arith, signed); last = omega (arith, signed) } in
    let n = unsigned_abs (y +ℤ pos 11999) in
    let a = unsigned_abs (first +ℤ pos 11999) in
    let b = unsigned_abs (last +ℤ pos 11999) in
    let here = place_of y years in
    let there = place_of last to in
    let begin = place_of first from in (
      omega (
        arith,
        signed,
        day-cycle y m d n here,
        day-cycle first 1 1 a begin,
        cycle_days-rise a n (omega (arith, signed)),
        days_through-two first,
      ),
      omega (
        arith,
        signed,
        day-cycle y m d n here,
        day-cycle last 12 31 b there,
        cycle_days-suc y n here,
        cycle_days-suc last b there,
        cycle_days-rise (suc n) (suc b) (omega (arith, signed)),
        days_through-all y,
        days_through-all last,
        days_through-step y m date.first_month,
        days_through-rise y m 12 date.last_month,
        days_through-step last 12 (omega arith),
        days_in_month-december last,
      ),
    )

-- and no others do
pub year-between : (y : ℤ) (m d : ℕ) (first last : ℤ) → IsCountedYear y → IsCountedYear first → IsCountedYear last → IsDate y m d
    → day first 1 1 ≤ℤ day y m d → day y m d ≤ℤ day last 12 31 → (first ≤ℤ y) × (y ≤ℤ last)
year-between y m d first last years from to date low high =
    let not_below : first ≤ℤ y = by_lt_z y first
    (λ lt. absurd (omega (arith, signed, before_later_year y first m d years date lt (omega (arith, signed)))))
    (λ le. le) in
    let not_above : y ≤ℤ last = by_lt_z last y
    (λ lt. absurd (omega (
      arith,
      signed,
      before_later_year last y 12 31 to (last_date last) lt (omega (arith, signed)),
      after_year_start y m d years date,
    )))
    (λ le. le) in
    (not_below, not_above)
