-- What rules give at instants that are known from outside, where they fire past their year's edges; and which year decides.
use Rattle.std.{proofs.Common.{◌≡◌, refl, arith, ◌∙◌, ap, cond, ℕ, ◌&&◌, nat_le, [], ◌∷◌, ◌++◌, map, true, false, ℤ, pos, neg_ℤ, ◌+ℤ◌, ◌*ℤ◌, Bool, codes}, proofs.lemmas.Bool.{and_parts, leb-true}, specs.Int.{int_div_euclid}}
use Rattle.basics.specs.{Dates.{last_with, year_of}, DateLaws.{year_of-day}, Days.{is_leap, days_in_year, days_in_month, days_after_zero, year_start, days_through, days_into_year, day, IsCountedYear}, SignedLaws.{signed}, Weekdays.{weekday_of}}
use Rattle.tz_posix.specs.{Days.{nth_weekday, rule_day}, InForce.{YearlyTime, instant_in, year_at}, declared.date.Date.TheVariants.{M, N}}
use Rattle.zone_tzif_core.specs.Zones.{KindValue}
use Rattle.tz_tzif.specs.FooterForce.{is_saved_by, is_footer_saving, saved_in, FooterZone, fixed, yearly, held_at, is_of_one_year, standard_total, saving_total}

-- years from 10 to 20, from 110 to 120 and from 210 to 220: before all, and at each moment and a second before it
in_order : map (is_saved_by (pos 210, pos 220) (pos 110, pos 120) (pos 10, pos 20) (neg_ℤ (pos 90), neg_ℤ (pos 80)))
    (pos 9 ∷ pos 10 ∷ pos 19 ∷ pos 20 ∷ pos 109 ∷ pos 110 ∷ pos 119 ∷ pos 120 ∷ pos 209 ∷ pos 210 ∷ pos 219 ∷ pos 220 ∷ [])
    ≡ false ∷ true ∷ true ∷ false ∷ false ∷ true ∷ true ∷ false ∷ false ∷ true ∷ true ∷ false ∷ []
unfolding is_saved_by
in_order = refl

-- the end before the start
reversed : map (is_saved_by (pos 220, pos 210) (pos 120, pos 110) (pos 20, pos 10) (neg_ℤ (pos 80), neg_ℤ (pos 90)))
    (pos 9 ∷ pos 10 ∷ pos 19 ∷ pos 20 ∷ pos 109 ∷ pos 110 ∷ pos 119 ∷ pos 120 ∷ pos 209 ∷ pos 210 ∷ pos 219 ∷ pos 220 ∷ [])
    ≡ true ∷ false ∷ false ∷ true ∷ true ∷ false ∷ false ∷ true ∷ true ∷ false ∷ false ∷ true ∷ []
unfolding is_saved_by
reversed = refl

-- before the three it is the year before them that decides, and not the first of them
before_them : map (λ earlier. is_saved_by (pos 220, pos 210) (pos 120, pos 110) (pos 20, pos 10) earlier (pos 9))
    ((neg_ℤ (pos 90), neg_ℤ (pos 80)) ∷ (neg_ℤ (pos 80), neg_ℤ (pos 90)) ∷ []) ≡ false ∷ true ∷ []
unfolding is_saved_by
before_them = refl

-- the order changes from year to year; saving that never ends, to the second and with hours left over; and none, whose start is its end
other_orders : map (λ s. is_saved_by (pos 220, pos 210) (pos 110, pos 120) (pos 20, pos 10) (pos 0, pos 1) s) (pos 19 ∷ pos 20 ∷ pos 110 ∷ pos 119 ∷ pos 120 ∷ pos 219 ∷ pos 220 ∷ [])
    ≡ false ∷ true ∷ true ∷ true ∷ false ∷ false ∷ true ∷ []
unfolding is_saved_by
other_orders = refl

for_ever : map (is_saved_by (pos 200, pos 300) (pos 100, pos 200) (pos 0, pos 100) (neg_ℤ (pos 100), pos 0)) (pos 0 ∷ pos 99 ∷ pos 100 ∷ pos 199 ∷ pos 200 ∷ pos 299 ∷ [])
    ≡ true ∷ true ∷ true ∷ true ∷ true ∷ true ∷ []
unfolding is_saved_by
for_ever = refl

left_over : map (is_saved_by (pos 200, pos 305) (pos 100, pos 205) (pos 0, pos 105) (neg_ℤ (pos 100), pos 5)) (pos 0 ∷ pos 99 ∷ pos 100 ∷ pos 105 ∷ pos 200 ∷ pos 205 ∷ [])
    ≡ true ∷ true ∷ true ∷ true ∷ true ∷ true ∷ []
unfolding is_saved_by
left_over = refl

never : map (is_saved_by (pos 200, pos 200) (pos 100, pos 100) (pos 10, pos 10) (pos 0, pos 0)) (pos 9 ∷ pos 10 ∷ pos 100 ∷ pos 150 ∷ pos 200 ∷ [])
    ≡ false ∷ false ∷ false ∷ false ∷ false ∷ []
unfolding is_saved_by
never = refl

-- the year after a year, the year itself and the two before it, where each year's rule holds from its tenth second to its twentieth, a hundred
-- seconds after the year before
abbrev by_hundreds : ℤ → ℤ × ℤ
by_hundreds y = (pos 100 *ℤ y +ℤ pos 10, pos 100 *ℤ y +ℤ pos 20)

by_years : map (saved_in by_hundreds (pos 1))
    (pos 9 ∷ pos 10 ∷ pos 19 ∷ pos 20 ∷ pos 109 ∷ pos 110 ∷ pos 119 ∷ pos 120 ∷ pos 209 ∷ pos 210 ∷ pos 219 ∷ pos 220 ∷ [])
    ≡ false ∷ true ∷ true ∷ false ∷ false ∷ true ∷ true ∷ false ∷ false ∷ true ∷ true ∷ false ∷ []
unfolding is_saved_by
by_years = refl

-- before the year before begins, the year before that one decides
abbrev turning : ℤ → ℤ × ℤ
turning y = (pos 100 *ℤ y +ℤ pos 20, pos 100 *ℤ y +ℤ pos 10)

from_two_before : map (λ y. saved_in turning y (pos 9)) (pos 0 ∷ pos 1 ∷ []) ++ map (λ y. saved_in by_hundreds y (pos 9)) (pos 0 ∷ pos 1 ∷ [])
    ≡ true ∷ true ∷ false ∷ false ∷ []
unfolding is_saved_by
from_two_before = refl

years_2024 : IsCountedYear (pos 2024)
years_2024 = record { first = omega (arith, signed); last = omega (arith, signed) }

-- a second of a day of 2024, five hours behind UTC, lies in that year
in_2024 : (m d : ℕ) → (nat_le 1 m && nat_le m 12 && nat_le 1 d && nat_le d (days_in_month (pos 2024) m)) ≡ true → (t : ℤ)
    → int_div_euclid (t +ℤ neg_ℤ (pos 18000)) (pos 86400) ≡ day (pos 2024) m d → year_at (neg_ℤ (pos 18000)) t ≡ pos 2024
unfolding year_at
in_2024 m d date t is =
    let b = and_parts (nat_le 1 m && nat_le m 12 && nat_le 1 d) _ date in
    let c = and_parts (nat_le 1 m && nat_le m 12) _ b.0 in
    let e = and_parts (nat_le 1 m) _ c.0 in
    ap year_of is ∙ year_of-day (pos 2024) m d years_2024
    (record { first_month = leb-true _ _ e.0; last_month = leb-true _ _ e.1; first_day = leb-true _ _ c.1; last_day = leb-true _ _ b.1 })

abbrev saves : YearlyTime → YearlyTime → ℤ → Bool
saves = is_footer_saving (neg_ℤ (pos 18000)) (neg_ℤ (pos 14400))

-- five hours behind UTC, daylight saving time from 150 hours into the last Sunday of December to the second Sunday of March at 02:00: the
-- start of 2023 lies on 6 January 2024 at 06:00
late_start : map (saves (M 12 5 0, pos 540000) (M 3 2 0, pos 7200)) (pos 1704538799 ∷ pos 1704538800 ∷ []) ≡ false ∷ true ∷ []
unfolding
    is_footer_saving is_saved_by instant_in rule_day nth_weekday last_with weekday_of
    is_leap days_in_year days_in_month days_after_zero year_start days_through days_into_year day
late_start = rw (in_2024 1 6 refl (pos 1704538799) refl, in_2024 1 6 refl (pos 1704538800) refl) refl

-- the same offsets, from 150 hours before the first Sunday of January to the first of April: the start of 2025 lies on 29 December 2024
early_start : map (saves (M 1 1 0, neg_ℤ (pos 540000)) (M 4 1 0, pos 7200)) (pos 1735513199 ∷ pos 1735513200 ∷ []) ≡ false ∷ true ∷ []
unfolding
    is_footer_saving is_saved_by instant_in rule_day nth_weekday last_with weekday_of
    is_leap days_in_year days_in_month days_after_zero year_start days_through days_into_year day
early_start = rw (in_2024 12 29 refl (pos 1735513199) refl, in_2024 12 29 refl (pos 1735513200) refl) refl

-- the same offsets, from 50 hours into the 365th day to 72 hours into the last Sunday of December. The end of 2022 lies on 28 December, before
-- its start, on 2 January 2023; the start of 2023 lies on 2 January 2024 at 02:00, before its end. So noon of 1 January 2024, before both, is
-- daylight saving time, as it has been since 2 January 2023.
over_edges : saves (N 364, pos 180000) (M 12 5 0, pos 259200) (pos 1704128400) ≡ true
unfolding
    is_footer_saving is_saved_by instant_in rule_day nth_weekday last_with weekday_of
    is_leap days_in_year days_in_month days_after_zero year_start days_through days_into_year day
over_edges = rw (in_2024 1 1 refl (pos 1704128400) refl) refl

-- what these hold: daylight saving time from the start on and standard time before it, and one kind for good
abbrev est : KindValue
est = record { utoff = neg_ℤ (pos 18000); is_dst = false; name = codes "EST" }

abbrev edt : KindValue
edt = record { utoff = neg_ℤ (pos 14400); is_dst = true; name = codes "EDT" }

abbrev late : FooterZone
late = yearly est edt (M 12 5 0, pos 540000) (M 3 2 0, pos 7200)

held : map (held_at late) (pos 1704538799 ∷ pos 1704538800 ∷ []) ≡ est ∷ edt ∷ []
unfolding held_at
held = ap (map (λ b. cond b edt est)) late_start

held_always : map (held_at (fixed est)) (pos 0 ∷ pos 1704538800 ∷ []) ≡ est ∷ est ∷ []
unfolding held_at
held_always = refl

standard_totals : map standard_total (late ∷ fixed est ∷ []) ≡ neg_ℤ (pos 18000) ∷ neg_ℤ (pos 18000) ∷ []
standard_totals = refl

saving_totals : map saving_total (late ∷ fixed est ∷ []) ≡ neg_ℤ (pos 14400) ∷ neg_ℤ (pos 18000) ∷ []
saving_totals = refl

-- the year before decides of 6 January, and the year after of 29 December from its start on; a second before that the year itself does
abbrev early : FooterZone
early = yearly est edt (M 1 1 0, neg_ℤ (pos 540000)) (M 4 1 0, pos 7200)

own_years : map (is_of_one_year late) (pos 1704538800 ∷ []) ++ map (is_of_one_year early) (pos 1735513199 ∷ pos 1735513200 ∷ [])
    ++ map (is_of_one_year (fixed est)) (pos 0 ∷ []) ≡ false ∷ true ∷ false ∷ true ∷ []
unfolding
    is_of_one_year instant_in rule_day nth_weekday last_with weekday_of
    is_leap days_in_year days_in_month days_after_zero year_start days_through days_into_year day
own_years = rw (in_2024 1 6 refl (pos 1704538800) refl, in_2024 12 29 refl (pos 1735513199) refl, in_2024 12 29 refl (pos 1735513200) refl) refl
