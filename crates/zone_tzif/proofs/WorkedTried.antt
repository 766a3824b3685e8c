-- Worked rows: the forms of years, the first cause, and the names of changes.
use Rattle.std.{proofs.Common.{◌≡◌, ◌+◌, ◌*◌, ◌≤◌, ℕ, List, [], ◌∷◌, ◌++◌, map, true, false, Some, None, refl, ap, ◌∙◌, lit≤, arith, ℤ, pos, neg_ℤ, ◌+ℤ◌}, specs.Prelude.{codes, ◌-ℤ◌, unsigned_abs}, specs.Fmt.{decimal, digits}}
use Rattle.basics.specs.{Dates.{day_of, month_of, year_of}, DateLaws.{day_of-day, month_of-day, year_of-day}, SignedLaws.{signed}, Weekdays.{weekday_of}}
use Rattle.basics.specs.Days.{day, is_leap, days_in_year, days_in_month, days_after_zero, year_start, days_through, days_into_year, IsCountedYear, IsDate}
use Rattle.zone_spans.specs.{Entries.{Entry}, declared.span.FixedTimespan.{FixedTimespan}}
use Rattle.tz_lookup.specs.declared.set.FixedTimespanSet.{FixedTimespanSet}
use Rattle.zone_tail.specs.{LastYear.{steady, yearly, other}, Texts.{name_text, offset_text, saving_text, time_text}}
use Rattle.zone_tzif.specs.{Tried.{change_by, changes_by, dated_text, day_by, days_back, ever_form, first_from, form_fault, how_many, is_dated, is_past_noon, moment_text, parts_text, signed_text, totals_for, tried_for, week_of}, declared.outcome.EverTailFault.TheVariants.{Shape, OffsetRange, Name}}

abbrev span : ℤ → ℤ → List ℕ → FixedTimespan
span offset saving name = record { utc_offset = offset; dst_offset = saving; name = name }

abbrev year : List Entry → FixedTimespanSet
year others = record { name = []; first = span (pos 0) (pos 0) (codes "UTC"); others = others }

abbrev spring : ℤ
spring = pos 4173000000

abbrev autumn : ℤ
autumn = pos 4190000000

abbrev standard : ℤ → Entry
standard time = (time, span (pos 3600) (pos 0) (codes "IST"))

abbrev saving : ℤ → Entry
saving time = (time, span (pos 3600) (pos 3600) (codes "SUM"))

abbrev below : ℤ → Entry
below time = (time, span (pos 3600) (neg_ℤ (pos 3600)) (codes "GMT"))

-- no entry of 2102: the last second before it and the first after it; its first and its last are of it
steady_years : map ever_form (year [] ∷ year (standard (pos 4165516799) ∷ []) ∷ year (standard (pos 4197052800) ∷ []) ∷ year (standard (pos 4165516800) ∷ []) ∷ year (standard (pos 4197052799) ∷ []) ∷ [])
    ≡ steady (span (pos 0) (pos 0) (codes "UTC")) ∷ steady (span (pos 3600) (pos 0) (codes "IST")) ∷ steady (span (pos 0) (pos 0) (codes "UTC")) ∷ other ∷ other ∷ []
unfolding ever_form first_from
steady_years = refl

-- a start and an end, in either order; a saving below 0; two of one kind, a third entry
yearly_years : map ever_form (year (saving spring ∷ standard autumn ∷ []) ∷ year (standard spring ∷ saving autumn ∷ []) ∷ year (standard spring ∷ below autumn ∷ [])
    ∷ year (saving spring ∷ below autumn ∷ []) ∷ year (standard spring ∷ standard autumn ∷ []) ∷ year (saving spring ∷ standard autumn ∷ saving autumn ∷ []) ∷ [])
    ≡ yearly (saving spring) (standard autumn) ∷ yearly (saving autumn) (standard spring) ∷ yearly (below autumn) (standard spring) ∷ other ∷ other ∷ other ∷ []
unfolding ever_form first_from
yearly_years = refl

-- beside two standard offsets none starts
other_offsets : ever_form (year ((spring, span (pos 0) (pos 3600) (codes "SUM")) ∷ standard autumn ∷ [])) ≡ other
unfolding ever_form first_from
other_offsets = refl

-- the offsets come before the names, which are names of POSIX
causes : map form_fault (steady (span (pos 0) (pos 0) (codes "UTC")) ∷ steady (span (pos 90000) (pos 0) []) ∷ steady (span (pos 0) (pos 0) (codes "CD")) ∷ steady (span (pos 0) (pos 0) (codes "-03"))
    ∷ yearly (saving spring) (standard autumn) ∷ yearly (saving spring) (autumn, span (pos 3600) (pos 0) []) ∷ yearly (spring, span (pos 89999) (pos 1) []) (standard autumn) ∷ other ∷ [])
    ≡ None ∷ Some OffsetRange ∷ Some Name ∷ None ∷ None ∷ Some Name ∷ Some OffsetRange ∷ Some Shape ∷ []
unfolding form_fault
causes = refl

-- before noon the day itself, the six before it, the seven after it; past noon those after it first
days : map (days_back false) (0 ∷ 1 ∷ 6 ∷ 7 ∷ 13 ∷ []) ≡ pos 0 ∷ pos 1 ∷ pos 6 ∷ neg_ℤ (pos 1) ∷ neg_ℤ (pos 7) ∷ []
days = refl

late_days : map (days_back true) (0 ∷ 1 ∷ 7 ∷ 8 ∷ 13 ∷ []) ≡ pos 0 ∷ neg_ℤ (pos 1) ∷ neg_ℤ (pos 7) ∷ pos 1 ∷ pos 6 ∷ []
late_days = refl

noon : map is_past_noon (pos 43199 ∷ pos 43200 ∷ pos 86399 ∷ pos 86400 ∷ []) ≡ false ∷ true ∷ true ∷ false ∷ []
noon = refl

-- of a month of 31 days: as the last, or by the number where there is one
weeks : map (λ day. week_of 31 day 0) (7 ∷ 8 ∷ 24 ∷ 25 ∷ 28 ∷ 29 ∷ 31 ∷ []) ≡ 1 ∷ 2 ∷ 4 ∷ 5 ∷ 5 ∷ 5 ∷ 5 ∷ []
weeks = refl

weeks_by_number : map (λ day. week_of 31 day 1) (7 ∷ 8 ∷ 24 ∷ 25 ∷ 28 ∷ 29 ∷ 31 ∷ []) ≡ 1 ∷ 2 ∷ 4 ∷ 4 ∷ 4 ∷ 5 ∷ 5 ∷ []
weeks_by_number = refl

-- 2:00 is left out, 24:00 and 50:00 are hours past the day, and -1:00 lies before it
times : map signed_text (pos 7200 ∷ pos 0 ∷ pos 86400 ∷ pos 180000 ∷ neg_ℤ (pos 3600) ∷ neg_ℤ (pos 7200) ∷ pos 5401 ∷ [])
    ≡ [] ∷ codes "/0" ∷ codes "/24" ∷ codes "/50" ∷ codes "/-1" ∷ codes "/-2" ∷ codes "/1:30:01" ∷ []
unfolding signed_text time_text digits
times = refl

-- each way to name the start with each to name the end
ways : how_many ≡ 42 * 42
ways = refl

-- 28 ways by weekdays, two for each of 14 days, and then 14 by dates
days_of_ways : (map is_dated (0 ∷ 27 ∷ 28 ∷ 41 ∷ []) ≡ false ∷ false ∷ true ∷ true ∷ []) × (map day_by (0 ∷ 1 ∷ 27 ∷ 28 ∷ 41 ∷ []) ≡ 0 ∷ 0 ∷ 13 ∷ 0 ∷ 13 ∷ [])
days_of_ways = (refl, refl)

-- the start is named by each of 42 ways, and with each the end by each of them
pairs : (start end : ℤ) → map (changes_by start end) (0 ∷ 1 ∷ 41 ∷ 42 ∷ 1763 ∷ [])
    ≡ map (λ (n : ℕ × ℕ). codes "," ++ change_by start n.0 ++ codes "," ++ change_by end n.1) ((0, 0) ∷ (0, 1) ∷ (0, 41) ∷ (1, 0) ∷ (41, 41) ∷ [])
pairs start end = refl

-- 2102-03-26 at 1:00, a Sunday: by the weekday of that day, of the one before and of the one after; and by the dates of two
counted : IsCountedYear (pos 2102)
counted = record { first = omega (arith, signed); last = omega (arith, signed) }

in_march : (k : ℤ) (d : ℕ) → k ≡ day (pos 2102) 3 d → IsDate (pos 2102) 3 d → (time : ℤ) (choice : ℕ)
    → moment_text k time choice ≡ parts_text 3 (week_of (days_in_month (pos 2102) 3) d choice) (weekday_of k) time
unfolding moment_text
in_march k d is date time choice =
    ap (λ y. parts_text (month_of k) (week_of (days_in_month y (month_of k)) (day_of k) choice) (weekday_of k) time) (ap year_of is ∙ year_of-day (pos 2102) 3 d counted date)
    ∙ ap (λ m. parts_text m (week_of (days_in_month (pos 2102) m) (day_of k) choice) (weekday_of k) time) (ap month_of is ∙ month_of-day (pos 2102) 3 d counted date)
    ∙ ap (λ x. parts_text 3 (week_of (days_in_month (pos 2102) 3) x choice) (weekday_of k) time) (ap day_of is ∙ day_of-day (pos 2102) 3 d counted date)

by_date : (k : ℤ) (d : ℕ) → k ≡ day (pos 2102) 3 d → IsDate (pos 2102) 3 d → (time : ℤ)
    → dated_text k time ≡ codes "J" ++ decimal (unsigned_abs (k -ℤ day (pos 2102) 1 1) + 1) ++ signed_text time
unfolding dated_text
by_date k d is date time =
    ap (λ y. codes "J" ++ decimal (unsigned_abs (k -ℤ day y 1 1) + 1) ++ signed_text time)
    (ap year_of is ∙ year_of-day (pos 2102) 3 d counted date)

in_its_month : (d : ℕ) → 1 ≤ d → d ≤ 31 → IsDate (pos 2102) 3 d
unfolding days_in_month
in_its_month d first last = record { first_month = lit≤ tt; last_month = lit≤ tt; first_day = first; last_day = last }

names_of_a_start : (change_by (pos 4172778000) 0 ≡ codes "M3.5.0/1") × (change_by (pos 4172778000) 1 ≡ codes "M3.4.0/1")
    × (change_by (pos 4172778000) 2 ≡ codes "M3.5.6/25") × (change_by (pos 4172778000) 15 ≡ codes "M3.4.1/-23")
    × (change_by (pos 4172778000) 28 ≡ codes "J85/1") × (change_by (pos 4172778000) 29 ≡ codes "J84/25")
unfolding change_by signed_text time_text digits weekday_of is_leap days_in_year days_in_month days_after_zero year_start days_through days_into_year day
names_of_a_start = (
  in_march (pos 48296) 26 refl (in_its_month 26 (lit≤ tt) (lit≤ tt)) (pos 3600) 0 ∙ refl,
  in_march (pos 48296) 26 refl (in_its_month 26 (lit≤ tt) (lit≤ tt)) (pos 3600) 1 ∙ refl,
  in_march (pos 48295) 25 refl (in_its_month 25 (lit≤ tt) (lit≤ tt)) (pos 90000) 0 ∙ refl,
  in_march (pos 48297) 27 refl (in_its_month 27 (lit≤ tt) (lit≤ tt)) (neg_ℤ (pos 82800)) 1 ∙ refl,
  by_date (pos 48296) 26 refl (in_its_month 26 (lit≤ tt) (lit≤ tt)) (pos 3600) ∙ refl,
  by_date (pos 48295) 25 refl (in_its_month 25 (lit≤ tt) (lit≤ tt)) (pos 90000) ∙ refl,
)

-- one offset is said whatever the number; else standard time comes first, and then daylight saving time
whole_texts : (n : ℕ) → (tried_for (steady (span (pos 3600) (pos 0) (codes "IST"))) n ≡ codes "IST-1") × (totals_for (saving spring) (standard autumn) ≡ codes "IST-1SUM")
    × (tried_for (yearly (saving spring) (standard autumn)) n ≡ codes "IST-1SUM" ++ changes_by (spring +ℤ pos 3600) (autumn +ℤ pos 7200) n)
unfolding tried_for name_text offset_text saving_text time_text digits
whole_texts n = (refl, refl, refl)
