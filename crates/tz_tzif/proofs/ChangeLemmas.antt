-- What holds stays as it is up to the next moment of the years that are looked at, or the next year.
use Rattle.std.{proofs.Common.{◌≡◌, ◌≤◌, suc, ℤ, pos, neg_ℤ, cond, ◌+ℤ◌, ◌-ℤ◌, ◌*ℤ◌, ◌≤ℤ◌, ◌<ℤ◌, int_le, int_lt, refl, sym, ap, ◌∙◌, arith, unsigned_abs}, specs.Prelude.{◌&&◌, ◌||◌}, specs.Int.{int_div_euclid}, proofs.lemmas.Int.{ints}}
use Rattle.basics.specs.{DateLaws.{IsYearOf, day-last_of_year, day-range, day_parts, place_of, year-between, year_of-is}, Dates.{year_of, month_of, day_of}, Days.{day, IsCountedYear}, MonthLaws.{days_through-two}, SignedLaws.{signed}}
use Rattle.basics.specs.YearLaws.{cycle_days-suc, day-cycle}
use Rattle.civil_base.specs.{RangeLaws.{offset_greatest, offset_least}, Ranges.{IsOffset}}
use Rattle.tz_posix.specs.InForce.{YearlyTime, moments_in, year_at}
use Rattle.tz_tzif.specs.{FooterForce.{has_begun, is_footer_saving, is_saved, is_saved_by, saved_in}, Places.{StandsForYear}, Years.{HasDate}}

-- ---- comparisons
same_le : (a s t n : ℤ) → s ≤ℤ t → t <ℤ n → (s <ℤ a → n ≤ℤ a) → int_le a t ≡ int_le a s
same_le a s t n h k f = grind (arith, ints)

same_lt : (a s t n : ℤ) → s ≤ℤ t → t <ℤ n → (s <ℤ a → n ≤ℤ a) → int_lt t a ≡ int_lt s a
same_lt a s t n h k f = grind (arith, ints)

-- no moment comes after s and before n
pub record AreApart (moments : ℤ × ℤ) (s n : ℤ) : Type 0 where
  pub start : s <ℤ moments.0 → n ≤ℤ moments.0
  pub end : s <ℤ moments.1 → n ≤ℤ moments.1

module _ (s t n : ℤ) (order : s ≤ℤ t) (before : t <ℤ n) where
  same_begun : (m : ℤ × ℤ) → AreApart m s n → has_begun m t ≡ has_begun m s
  same_begun m apart = λ i. same_le m.0 s t n order before apart.start i || same_le m.1 s t n order before apart.end i

  same_saved : (m : ℤ × ℤ) → AreApart m s n → is_saved m t ≡ is_saved m s
  same_saved m apart = λ i. same_le m.0 s t n order before apart.start i && (same_lt m.1 s t n order before apart.end i || int_lt m.1 m.0)

  pub same_by : (after here last earlier : ℤ × ℤ) → AreApart after s n → AreApart here s n → AreApart last s n
      → is_saved_by after here last earlier t ≡ is_saved_by after here last earlier s
  unfolding is_saved_by
  same_by after here last earlier a h l = λ i.
      cond (same_begun after a i) (same_saved after a i)
      (cond (same_begun here h i) (same_saved here h i)
      (cond (same_begun last l i) (same_saved last l i) (int_lt earlier.1 earlier.0)))

-- ---- years
first_of_next : (y : ℤ) → IsCountedYear y → day (y +ℤ pos 1) 1 1 ≡ day y 12 31 +ℤ pos 1
first_of_next y years =
    let n = unsigned_abs (y +ℤ pos 11999) in
    let here = place_of y years in
    let there : y +ℤ pos 1 +ℤ pos 11999 ≡ pos (suc n) = omega (arith, signed, here) in
    omega (
      arith,
      signed,
      day-cycle y 1 1 n here,
      day-cycle (y +ℤ pos 1) 1 1 (suc n) there,
      cycle_days-suc y n here,
      day-last_of_year y years,
      days_through-two y,
      days_through-two (y +ℤ pos 1),
    )

-- a day from a year's first up to, without, the next year's
one_year : (y k : ℤ) → IsCountedYear y → day y 1 1 ≤ℤ k → k <ℤ day (y +ℤ pos 1) 1 1 → year_of k ≡ y
one_year y k years begun over =
    let last : k ≤ℤ day y 12 31 = omega (arith, signed, over, first_of_next y years) in
    let low = day-range y 1 1 years (omega arith) (omega arith) (omega arith) (omega arith) in
    let high = day-range y 12 31 years (omega arith) (omega arith) (omega arith) (omega arith) in
    let parts = day_parts k (omega (arith, signed, low.0, begun)) (omega (arith, signed, high.1, last)) in
    let both = year-between (year_of k) (month_of k) (day_of k) y y parts.0 years years parts.1.date
    (omega (arith, signed, parts.1.number, begun)) (omega (arith, signed, parts.1.number, last)) in
    omega (arith, signed, both.0, both.1)

-- the year of a second that has a date
pub near : (o s : ℤ) → IsOffset o → HasDate s → IsYearOf (year_at o s) (int_div_euclid (s +ℤ o) (pos 86400))
unfolding year_at
near o s offset dated =
    let k = int_div_euclid (s +ℤ o) (pos 86400) in
    year_of-is k (omega (arith, signed, offset_least o offset, dated.first)) (omega (arith, signed, offset_greatest o offset, dated.last))

-- the next year begins later
pub later_year : (o s : ℤ) → IsOffset o → HasDate s → s <ℤ (pos 86400 *ℤ day (year_at o s +ℤ pos 1) 1 1 -ℤ o)
later_year o s offset dated =
    let here = near o s offset dated in
    omega (arith, signed, here.next)

day_order : (o s t : ℤ) → s ≤ℤ t → int_div_euclid (s +ℤ o) (pos 86400) ≤ℤ int_div_euclid (t +ℤ o) (pos 86400)
day_order o s t order = omega (arith, signed, order)

day_before : (o t d : ℤ) → t <ℤ (pos 86400 *ℤ d -ℤ o) → int_div_euclid (t +ℤ o) (pos 86400) <ℤ d
day_before o t d before = omega (arith, signed, before)

year_by : (o t y : ℤ) → year_of (int_div_euclid (t +ℤ o) (pos 86400)) ≡ y → year_at o t ≡ y
unfolding year_at
year_by o t y is = is

pub same_year : (o s t : ℤ) → IsOffset o → HasDate s → s ≤ℤ t → t <ℤ (pos 86400 *ℤ day (year_at o s +ℤ pos 1) 1 1 -ℤ o)
    → year_at o t ≡ year_at o s
same_year o s t offset dated order before =
    let here = near o s offset dated in
    let y = year_at o s in
    let begun : day y 1 1 ≤ℤ int_div_euclid (t +ℤ o) (pos 86400) = omega (arith, signed, here.begun, day_order o s t order) in
    year_by o t y (one_year y (int_div_euclid (t +ℤ o) (pos 86400)) here.counted begun (day_before o t _ before))

-- n: the next year asked for the year of s begins no earlier
pub same_saving : (standard saving : ℤ) (start end : YearlyTime) (s asked later n : ℤ) → IsOffset standard → HasDate s
    → StandsForYear (year_at standard s) asked later
    → n ≤ℤ (pos 86400 *ℤ day (asked +ℤ pos 1) 1 1 -ℤ standard)
    → ((t : ℤ) → (s +ℤ later) ≤ℤ t → t <ℤ n → saved_in (moments_in standard saving start end) asked t ≡ saved_in (moments_in standard saving start end) asked (s +ℤ later))
    → (t : ℤ) → s ≤ℤ t → t <ℤ (n -ℤ later)
    → is_footer_saving standard saving start end t ≡ is_footer_saving standard saving start end s
unfolding is_footer_saving
same_saving standard saving start end s asked later n offset dated stands next same t order before =
    let y = year_at standard s in
    let moments = moments_in standard saving start end in
    ap (λ z. saved_in moments z t) (same_year standard s t offset dated order (omega (arith, signed, before, next, stands.ends)))
    ∙ sym (stands.gives standard saving start end t)
    ∙ same (t +ℤ later) (omega (arith, ints, order)) (omega (arith, ints, before))
    ∙ stands.gives standard saving start end s
