-- The years of seconds by clocks of standard time, and the years in which rules from a year on apply.
use Rattle.std.{proofs.Common.{◌≡◌, ℕ, ◌+◌, ◌-◌, ◌<◌, ◌⊎◌, inl, inr, Bool, true, false, cond, ◌&&◌, Some, unwrap_or, refl, ap, ◌∙◌, arith, ℤ, pos, ◌+ℤ◌, ◌-ℤ◌, ◌≤ℤ◌, ◌<ℤ◌, int_le, int_lt, unsigned_abs}, specs.Int.{int_div_euclid}, proofs.lemmas.Int.{by_lt_z}}
use Rattle.basics.specs.{Dates.{year_of}, DateLaws.{day-between, day-range, year_of-is}, Days.{day, IsCountedYear}, ComparisonLaws.{le_pass, le_fail, lt_from_pass, lt_from_fail}, SignedLaws.{signed, floored, natural}}
use Rattle.zone_table.specs.{declared.year.Year.TheVariants.{Maximum, Number}, Moments.{applies_to_year, last_year, is_at_most, is_at_least}, declared.rule.RuleInfo.{RuleInfo}}
use Rattle.tz_posix.specs.{TwoRules.{year_from}, Agreement.{first_year, IsInRuleYears, IsRuleYear}, InForce.{year_at}}
use Rattle.civil_base.specs.DayRangeLaws.{new_year}

-- ---- years in order

-- the years 1800 to 2100, of which a date of the first of January begins each that is expanded, and ends one
pub record IsNear (y : ℤ) : Type 0 where
  pub first : pos 1800 ≤ℤ y
  pub last : y ≤ℤ pos 2100

pub near-counted : (y : ℤ) → IsNear y → IsCountedYear y
near-counted y h = record { first = omega (arith, signed, h.first, h.last); last = omega (arith, signed, h.first, h.last) }

pub year_starts-rise : (y z : ℤ) → IsCountedYear y → IsCountedYear z → y ≤ℤ z → day y 1 1 ≤ℤ day z 1 1
year_starts-rise y z a b h = (day-between z 1 1 y z a b h (omega (arith, signed)) (new_year z)).0

next-counted : (y : ℤ) → IsNear y → IsCountedYear (y +ℤ pos 1)
next-counted y h = record { first = omega (arith, signed, h.first, h.last); last = omega (arith, signed, h.first, h.last) }

-- a second of an earlier year is earlier
pub earlier_year : (o y z s t : ℤ) → IsNear y → IsNear z → y <ℤ z → IsInRuleYears o y y s → IsInRuleYears o z z t → s <ℤ t
earlier_year o y z s t near later h a b =
    let rise = year_starts-rise (y +ℤ pos 1) z (next-counted y near) (near-counted z later) (omega (arith, signed)) in
    omega (arith, signed, rise, a.not_over, b.begun)

-- ---- the year of a second

-- the year lies between two, and the second in it
pub record IsYearIn (o from to y s : ℤ) : Type 0 where
  pub first : from ≤ℤ y
  pub last : y ≤ℤ to
  pub inside : IsInRuleYears o y y s

pub year_at-is : (o from to s : ℤ) → IsNear from → IsNear to → IsInRuleYears o from to s → IsYearIn o from to (year_at o s) s
unfolding year_at
year_at-is o from to s a b inside =
    let k = int_div_euclid (s +ℤ o) (pos 86400) in
    let rest = floored (s +ℤ o) 86400 (omega arith) in
    let low : day from 1 1 ≤ℤ k = omega (arith, signed, rest, inside.begun) in
    let high : k <ℤ day (to +ℤ pos 1) 1 1 = omega (arith, signed, rest, inside.not_over) in
    let first = day-range from 1 1 (near-counted from a) (omega arith) (omega arith) (omega arith) (omega arith) in
    let last = day-range (to +ℤ pos 1) 1 1 (next-counted to b) (omega arith) (omega arith) (omega arith) (omega arith) in
    let year = year_of-is k (omega (arith, signed, first.0)) (omega (arith, signed, last.1)) in
    let y = year_of k in
    let not_below : from ≤ℤ y = by_lt_z y from
    (λ lt. let rise = year_starts-rise (y +ℤ pos 1) from (record { first = omega (arith, signed, year.counted.first); last = omega (arith, signed, a.last) })
    (near-counted from a) (omega (arith, signed)) in absurd (omega (arith, signed, low, year.next, rise))) (λ le. le) in
    let not_above : y ≤ℤ to = by_lt_z to y
    (λ lt. let rise = year_starts-rise (to +ℤ pos 1) y (next-counted to b) year.counted (omega (arith, signed)) in
    absurd (omega (arith, signed, high, year.begun, rise))) (λ le. le) in
    record {
      first = not_below;
      last = not_above;
      inside = record { begun = omega (arith, signed, rest, year.begun); not_over = omega (arith, signed, rest, year.next) };
    }

-- ---- the years of rules

abbrev IsFirst : ℤ → ℤ → Type 0
IsFirst from y = ((y ≡ from) × (pos 1800 ≤ℤ from)) ⊎ ((y ≡ pos 1800) × (from ≤ℤ pos 1800))

first_year-is : (from : ℤ) → IsFirst from (first_year from)
first_year-is from = by_test (int_lt (pos 1800) from) refl
  where
    by_test : (b : Bool) → int_lt (pos 1800) from ≡ b → IsFirst from (cond b from (pos 1800))
    by_test true h = let above = lt_from_pass (pos 1800) from h in inl (refl, omega (arith, signed))
    by_test false h = inr (refl, lt_from_fail (pos 1800) from h)

-- the first year is 1800 + m, and n years are left to 2099
pub record ArePlaces (from : ℤ) (m n : ℕ) : Type 0 where
  pub first : first_year from ≡ pos (1800 + m)
  pub all : m + n ≡ 300
  pub some : 0 < n

-- how many years come before the first
pub years_before : ℤ → ℕ
years_before from = unsigned_abs (first_year from -ℤ pos 1800)

pub are_places : (from : ℤ) → from ≤ℤ pos 2099 → ArePlaces from (years_before from) (300 - years_before from)
unfolding years_before
are_places from h =
    let y = first_year from in
    let bounds : (pos 1800 ≤ℤ y) × (y ≤ℤ pos 2099) = elim (first_year-is from) [
      | inl same ↦ (omega (arith, signed, same.0, same.1), omega (arith, signed, same.0))
      | inr least ↦ (omega (arith, signed, least.0), omega (arith, signed, least.0))
    ] in
    let whole : y -ℤ pos 1800 ≡ pos (unsigned_abs (y -ℤ pos 1800)) = natural (y -ℤ pos 1800) (omega (arith, signed, bounds.0)) in
    record {
      first = omega (arith, signed, whole);
      all = omega (arith, signed, whole, bounds.1);
      some = omega (arith, signed, whole, bounds.1);
    }

module _ (from : ℤ) (m n : ℕ) (at : ArePlaces from m n) where
  pub rule_year : (i : ℕ) → i < n → IsRuleYear from (year_from m i)
  rule_year i l = record { first = omega (arith, signed, at.first); last = omega (arith, signed, at.all) }

  -- each year that rules apply to has its place
  pub place_in : ℤ → ℕ
  place_in y = unsigned_abs (y -ℤ pos (1800 + m))

  pub place_in-is : (y : ℤ) → IsRuleYear from y → (y ≡ year_from m (place_in y)) × (place_in y < n)
  unfolding place_in
  place_in-is y year =
      let whole : y -ℤ pos (1800 + m) ≡ pos (unsigned_abs (y -ℤ pos (1800 + m))) =
      natural (y -ℤ pos (1800 + m)) (omega (arith, signed, at.first, year.first)) in
      (omega (arith, signed, whole), omega (arith, signed, whole, year.last, at.all))

  reached : (y : ℤ) → IsRuleYear from y → from ≤ℤ y
  reached y year = elim (first_year-is from) [
    | inl same ↦ omega (arith, signed, same.0, year.first)
    | inr least ↦ omega (arith, signed, least.0, least.1, year.first)
  ]

  not_reached : (i : ℕ) → i < m → pos (1800 + i) <ℤ from
  not_reached i l = elim (first_year-is from) [
    | inl same ↦ omega (arith, signed, same.0, at.first)
    | inr least ↦ absurd (omega (arith, signed, least.0, at.first))
  ]

  applies : (rule : RuleInfo) → rule.from_year ≡ Number from → rule.to_year ≡ Some Maximum → (y : ℤ)
      → applies_to_year rule y ≡ (int_le from y && true)
  unfolding applies_to_year last_year
  applies rule start end y = λ i. is_at_most (start i) y && is_at_least (unwrap_or (end i) rule.from_year) y

  pub applies_from : (rule : RuleInfo) → rule.from_year ≡ Number from → rule.to_year ≡ Some Maximum → (i : ℕ) → i < n
      → applies_to_year rule (year_from m i) ≡ true
  applies_from rule start end i l =
      applies rule start end (year_from m i)
      ∙ ap (λ b. b && true) (le_pass from (year_from m i) (reached (year_from m i) (rule_year i l)))

  pub not_before : (rule : RuleInfo) → rule.from_year ≡ Number from → rule.to_year ≡ Some Maximum → (i : ℕ) → i < m
      → applies_to_year rule (pos (1800 + i)) ≡ false
  not_before rule start end i l =
      applies rule start end (pos (1800 + i))
      ∙ ap (λ b. b && true) (le_fail from (pos (1800 + i)) (not_reached i l))

pub near_year : (from y : ℤ) → from ≤ℤ pos 2099 → IsRuleYear from y → IsNear y
near_year from y h year = elim (first_year-is from) [
  | inl same ↦ record { first = omega (arith, signed, same.0, same.1, year.first); last = omega (arith, signed, year.last) }
  | inr least ↦ record { first = omega (arith, signed, least.0, year.first); last = omega (arith, signed, year.last) }
]
