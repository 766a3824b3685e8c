-- The days of months in closed form.
use Rattle.std.proofs.{Common.{◌≡◌, ℕ, zero, suc, ◌+◌, ◌-◌, ◌*◌, ◌/◌, ◌%◌, ◌<◌, ◌≤◌, arith, refl, ap, ℤ}, lemmas.Bool.Decides.{nat_tests}}
use Rattle.basics.specs.Days.{days_in_year, days_in_month, days_through}

pub days_in_month-bounds : (y : ℤ) (m : ℕ) → (28 ≤ days_in_month y m) × (days_in_month y m ≤ 31)
unfolding days_in_month
days_in_month-bounds y m = grind arith

pub days_in_month-february : (y : ℤ) → days_in_month y 2 + 337 ≡ days_in_year y
unfolding days_in_month days_in_year
days_in_month-february y = grind arith

pub days_in_month-other : (y : ℤ) (m : ℕ) → 3 ≤ m → m ≤ 12 → days_in_month y m + (153 * m - 457) / 5 ≡ (153 * m - 304) / 5
unfolding days_in_month
days_in_month-other y m low high = grind (arith, nat_tests)

pub days_through-suc : (y : ℤ) (n : ℕ) → days_through y (suc n) ≡ days_through y n + days_in_month y (suc n)
unfolding days_through
days_through-suc y n = refl

pub days_through-two : (y : ℤ) → (days_through y 0 ≡ 0) × (days_through y 1 ≡ 31) × (days_through y 2 + 306 ≡ days_in_year y)
unfolding days_through days_in_month days_in_year
days_through-two y = grind arith

-- from March on the months have 31 and 30 days in turn, but for July and August
pub days_through-march : (y : ℤ) (k : ℕ) → k ≤ 10 → days_through y (suc (suc k)) + 306 ≡ (153 * k + 2) / 5 + days_in_year y
days_through-march y zero h = omega (arith, days_through-two y)
days_through-march y (suc k) h =
    omega (
      arith,
      days_through-march y k (omega arith),
      days_through-suc y (suc (suc k)),
      days_in_month-other y (suc (suc (suc k))) (omega arith) (omega arith),
    )

-- the days before the month m
pub days_through-late : (y : ℤ) (m : ℕ) → 3 ≤ m → m ≤ 13 → days_through y (m - 1) + 306 ≡ (153 * m - 457) / 5 + days_in_year y
days_through-late y m low high =
    let before : m - 1 ≡ suc (suc (m - 3)) = omega arith in
    omega (arith, ap (days_through y) before, days_through-march y (m - 3) (omega arith))

days_through-add : (y : ℤ) (m k : ℕ) → days_through y m ≤ days_through y (k + m)
days_through-add y m zero = let same : 0 + m ≡ m = omega arith in rw same (omega arith)
days_through-add y m (suc k) =
    let next : suc k + m ≡ suc (k + m) = omega arith in
    rw next (omega (arith, days_through-add y m k, days_through-suc y (k + m)))

pub days_through-rise : (y : ℤ) (m n : ℕ) → m ≤ n → days_through y m ≤ days_through y n
days_through-rise y m n h =
    let same : n - m + m ≡ n = omega arith in
    rw same at (days_through-add y m (n - m))

-- a month's days are those between its start and the next one's
pub days_through-step : (y : ℤ) (m : ℕ) → 1 ≤ m → days_through y m ≡ days_through y (m - 1) + days_in_month y m
days_through-step y m h =
    let same : suc (m - 1) ≡ m = omega arith in
    rw same at (days_through-suc y (m - 1))

pub days_through-all : (y : ℤ) → days_through y 12 ≡ days_in_year y
days_through-all y = omega (arith, days_through-late y 13 (omega arith) (omega arith))

pub days_in_year-bounds : (y : ℤ) → (365 ≤ days_in_year y) × (days_in_year y ≤ 366)
unfolding days_in_year
days_in_year-bounds y = grind arith

-- a day of the year from March on, as a month and a day of it
pub march_month : (y : ℤ) (k : ℕ) → k < 306 → days_through y ((5 * k + 2) / 153 + 3 - 1) +
    ((5 * k + 2) % 153 / 5 + 1) + 306 ≡ k + days_in_year y + 1
march_month y k h =
    omega (arith, days_through-late y ((5 * k + 2) / 153 + 3) (omega arith) (omega arith))

pub march_day : (y : ℤ) (k : ℕ) → k < 306 → (5 * k + 2) % 153 / 5 + 1 ≤ days_in_month y ((5 * k + 2) / 153 + 3)
march_day y k h =
    omega (arith, days_in_month-other y ((5 * k + 2) / 153 + 3) (omega arith) (omega arith))

pub days_in_month-january : (y : ℤ) → days_in_month y 1 ≡ 31
unfolding days_in_month
days_in_month-january y = refl

pub days_in_month-december : (y : ℤ) → days_in_month y 12 ≡ 31
unfolding days_in_month
days_in_month-december y = refl
