-- The date-times of the spans that are found are at the instants of the local time.
use Rattle.std.proofs.{Common.{◌≡◌, ℕ, ◌+◌, ◌-◌, ◌≤◌, List, [], ◌∷◌, length, map, ℤ, refl, sym, ap, ◌∙◌, arith}, lemmas.List.{length-map}}
use Rattle.civil_base.specs.{DateTimes.{at_offset}, Instants.{seconds_of}, Instants.{instant_at}}
use Rattle.zone_spans.specs.{Schedules.{total_at}, ScheduleLaws.{total_is_offset}}
use Rattle.tz_lookup.{specs.{declared.set.FixedTimespanSet.{FixedTimespanSet}, InForce.{all_in_force, shown_of}, Scans.{spans_from}, Sets.{schedule_of, total_of_span, IsAccepted}, InForceLaws.{shown_at_offset}}, proofs.{ScanLemmas.{few_spans, scan_totals}, SetLemmas.{count_same}, TimeZoneLemmas.{in_force_from_totals}}}

dates_at : (x : ℤ) (total : ℕ → ℤ) (ks : List ℕ)
    → map shown_of (map (λ k. at_offset x (total k)) ks) ≡ map (λ o. (instant_at x o, o)) (map total ks)
dates_at x total [] = refl
dates_at x total (k ∷ ks) = (λ i. shown_at_offset x (total k) i ∷ dates_at x total ks i)

pub each_date : (set : FixedTimespanSet) (x s : ℤ) → IsAccepted (schedule_of set) → seconds_of x ≡ s
    → map shown_of (map (λ k. at_offset x (total_of_span set k)) (spans_from (schedule_of set) s 0 (length set.others + 1 - 0)))
    ≡ all_in_force (total_at (schedule_of set)) x
each_date set x s accepted at =
    let size : length set.others + 1 - 0 ≡ length (schedule_of set).shifts + 1 = omega (arith, count_same set) in
    dates_at x (total_of_span set) _
    ∙ ap (λ n. map (λ o. (instant_at x o, o)) (map (total_of_span set) (spans_from (schedule_of set) s 0 n))) size
    ∙ ap (map (λ o. (instant_at x o, o))) (sym (scan_totals (schedule_of set) x s at accepted))
    ∙ in_force_from_totals (total_at (schedule_of set)) x (λ t. total_is_offset (schedule_of set) t accepted.range)

pub few_dates : (set : FixedTimespanSet) (x s : ℤ)
    → length (map (λ k. at_offset x (total_of_span set k)) (spans_from (schedule_of set) s 0 (length set.others + 1 - 0))) ≤
    length set.others + 1
few_dates set x s =
    let found = spans_from (schedule_of set) s 0 (length set.others + 1 - 0) in
    omega (arith, few_spans (schedule_of set) s 0 (length set.others + 1 - 0), length-map found (λ k. at_offset x (total_of_span set k)))
