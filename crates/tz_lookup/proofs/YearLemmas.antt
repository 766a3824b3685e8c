-- Years by the seconds at which they begin.
use Rattle.std.{proofs.Common.{◌≡◌, ℕ, zero, suc, ◌+◌, ◌<◌, ◌≤◌, cond, ℤ, pos, negsuc, ◌+ℤ◌, ◌-ℤ◌, ◌*ℤ◌, ◌≤ℤ◌, ◌<ℤ◌, unsigned_abs, sym, ap, ◌∙◌, subst, ⊎_elim, arith}, specs.Int.{int_div_euclid}, proofs.lemmas.Bool.{cases_lt}, proofs.lemmas.Int.{ints}}
use Rattle.basics.specs.{Cycles.{cycle_days}, DateLaws.{IsYearOf, place_of}, Days.{day}, MonthLaws.{days_through-two}, ComparisonLaws.{le_pass, le_fail, le_le}, SignedLaws.{signed}, YearLaws.{cycle_days-rise, day-cycle}}
use Rattle.tz_lookup.specs.Years.{year_second, begun_from, years_begun, HaveBegun, IsWithinYear}

-- the day on which a year begins, by the years before it
pub day_at : (i : ℕ) → day (pos (1800 + i)) 1 1 +ℤ pos 5102072 ≡ pos (cycle_days (13799 + i))
day_at i =
    let place : pos (1800 + i) +ℤ pos 11999 ≡ pos (13799 + i) = omega (arith, signed) in
    omega (arith, signed, day-cycle (pos (1800 + i)) 1 1 (13799 + i) place, days_through-two (pos (1800 + i)))

pub year_rises : (i j : ℕ) → i ≤ j → year_second i ≤ℤ year_second j
unfolding year_second
year_rises i j l = omega (arith, signed, day_at i, day_at j, cycle_days-rise (13799 + i) (13799 + j) (omega arith))

-- a year has 365 days and more
pub year_long : (i : ℕ) → (year_second i +ℤ pos 31536000) ≤ℤ year_second (suc i)
unfolding year_second
year_long i =
    let more : cycle_days (13799 + i) + 365 ≤ cycle_days (13799 + suc i) = longer (13799 + i) (13799 + suc i) (omega arith) in
    omega (arith, signed, day_at i, day_at (suc i), more)
  where
    longer : (m n : ℕ) → n ≡ suc m → cycle_days m + 365 ≤ cycle_days n
    longer m n e = omega (arith, e)

pub first_second : year_second 0 ≡ negsuc 5364662399
unfolding year_second
first_second = omega (arith, signed, day_at 0)

pub last_second : year_second 1000 ≡ pos 26192246400
unfolding year_second
last_second = omega (arith, signed, day_at 1000)

begun_is : (second : ℤ) (i n c e : ℕ) → i + c ≡ e → c ≤ n → ((j : ℕ) → i ≤ j → j < e → year_second j ≤ℤ second)
    → (c < n → second <ℤ year_second e) → begun_from second i n ≡ c
unfolding begun_from
begun_is second i zero c e is l begun ahead = omega arith
begun_is second i (suc n) zero e is l begun ahead =
    let here : e ≡ i = omega arith in
    ap (λ b. cond b (suc (begun_from second (suc i) n)) 0)
    (le_fail (year_second i) second (subst (λ k. second <ℤ year_second k) here (ahead (omega arith))))
begun_is second i (suc n) (suc c) e is l begun ahead =
    ap (λ b. cond b (suc (begun_from second (suc i) n)) 0) (le_pass (year_second i) second (begun i (omega arith) (omega arith)))
    ∙ ap suc (begun_is second (suc i) n c e (omega arith) (omega arith) (λ j m k. begun j (omega arith) k) (λ m. ahead (omega arith)))

pub years_are : (c : ℕ) (second : ℤ) → HaveBegun c second → years_begun second ≡ c
unfolding years_begun
years_are c second h = begun_is second 0 1001 c c (omega arith) h.within (λ j _ l. h.begun j l) h.ahead

-- where one year has begun all before it have
pub begun_up_to : (c : ℕ) (second : ℤ) → suc c ≤ 1001 → year_second c ≤ℤ second → (suc c < 1001 → second <ℤ year_second (suc c))
    → HaveBegun (suc c) second
begun_up_to c second l begun ahead = record {
  within = l;
  begun = λ j m. le_le _ _ _ (year_rises j c (omega arith)) begun;
  ahead = ahead;
}

pub before_all : (second : ℤ) → second <ℤ negsuc 5364662399 → HaveBegun 0 second
before_all second l = record {
  within = omega arith;
  begun = λ j m. absurd (omega arith);
  ahead = λ _. subst (λ s. second <ℤ s) (sym first_second) l;
}

pub after_all : (second : ℤ) → pos 26192246400 ≤ℤ second → HaveBegun 1001 second
after_all second l = begun_up_to 1000 second (omega arith) (subst (λ s. s ≤ℤ second) (sym last_second) l) (λ m. absurd (omega arith))

-- the seconds of a day
pub day_seconds : (t : ℤ) → ((pos 86400 *ℤ int_div_euclid t (pos 86400)) ≤ℤ t) × (t <ℤ (pos 86400 *ℤ int_div_euclid t (pos 86400) +ℤ pos 86400))
day_seconds (pos n) = (omega (arith, ints), omega (arith, ints))
day_seconds (negsuc n) = (omega (arith, ints), omega (arith, ints))

-- the year of a day of the years from 1800 to 2799 is that of the day's seconds
pub within_year : (t d y : ℤ) → (pos 86400 *ℤ d) ≤ℤ t → t <ℤ (pos 86400 *ℤ d +ℤ pos 86400) → negsuc 5364662399 ≤ℤ t → t <ℤ pos 26192246400
    → IsYearOf y d → IsWithinYear y t
within_year t d y low high first last year =
    let n = unsigned_abs (y +ℤ pos 11999) in
    let place : y +ℤ pos 11999 ≡ pos n = place_of y year.counted in
    let place_after : y +ℤ pos 1 +ℤ pos 11999 ≡ pos (suc n) = omega (arith, signed, place) in
    let start = day-cycle y 1 1 n place in
    let next = day-cycle (y +ℤ pos 1) 1 1 (suc n) place_after in
    let least : negsuc 62090 ≤ℤ d = omega (arith, signed, high, first) in
    let greatest : d ≤ℤ pos 303150 = omega (arith, signed, low, last) in
    let none = days_through-two y in
    let none_after = days_through-two (y +ℤ pos 1) in
    let not_before : 13799 ≤ n =
    ⊎_elim {C = 13799 ≤ n}
    (λ l. absurd (omega (arith, signed, next, none_after, year.next, least, cycle_days-rise (suc n) 13799 l)))
    (λ l. omega arith)
    (cases_lt n 13799) in
    let not_after : n ≤ 14798 =
    ⊎_elim {C = n ≤ 14798}
    (λ l. absurd (omega (arith, signed, start, none, year.begun, greatest, cycle_days-rise 14799 n (omega arith))))
    (λ l. omega arith)
    (cases_lt 14798 n) in
    record {
      first = omega (arith, signed, place);
      last = omega (arith, signed, place);
      begun = omega (arith, signed, year.begun, low);
      next = omega (arith, signed, year.next, high);
    }

-- so many years have begun then
pub within_begun : (c : ℕ) (y second : ℤ) → pos c ≡ y -ℤ pos 1800 +ℤ pos 1 → IsWithinYear y second → HaveBegun c second
unfolding year_second
within_begun zero y second e h = absurd (omega (arith, signed, h.first, e))
within_begun (suc c) y second e h =
    let this : y ≡ pos (1800 + c) = omega (arith, signed, e) in
    let next : y +ℤ pos 1 ≡ pos (1800 + suc c) = omega (arith, signed, e) in
    begun_up_to c second (omega (arith, signed, h.last, e)) (subst (λ z. (pos 86400 *ℤ day z 1 1) ≤ℤ second) this h.begun)
    (λ _. subst (λ z. second <ℤ (pos 86400 *ℤ day z 1 1)) next h.next)
