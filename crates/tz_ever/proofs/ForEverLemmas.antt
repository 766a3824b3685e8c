-- The set of a zone's spans over 704 years says all that the zone shows for ever.
use Rattle.std.{proofs.Common.{◌≡◌, ℕ, zero, suc, ◌+◌, ◌*◌, ◌≤◌, List, true, Some, Ok, ℤ, pos, ◌+ℤ◌, ◌-ℤ◌, ◌*ℤ◌, ◌<ℤ◌, refl, sym, ap, ◌∙◌, subst, arith}, specs.List.{list_all}, specs.Option.{option_map_or}}
use Rattle.basics.specs.{Days.{day}, MonthLaws.{days_through-two}, SignedLaws.{signed}, YearLaws.{day-cycle}}
use Rattle.zone_table.specs.declared.zone.ZoneInfo.{ZoneInfo}
use Rattle.zone_spans.specs.{Bounds.{is_bounded_line}, Compiled.{compiled, compiled_over}, Entries.{total}, Lines.{Rulesets, zone_lines}, Schedules.{is_in_offset_range, schedule_over, total_at, totals_of}, Years.{earliest_year}}
use Rattle.zone_spans.specs.{declared.span.FixedTimespan.{FixedTimespan}, Cycle.{instant_on}, GoesOn.{GoesOn}}
use Rattle.zone_spans.specs.declared.span.FixedTimespanSet as spans
use Rattle.tz_ever.specs.{AnyYear.{AreEnough, IsFrom2101, instants_on, span_for_ever, span_told, total_for_ever}, InForce.{span_at}, Ever.{IsRepeating, ever_span, ever_total}, ForEver.{IsForEver, ever_years}, Seam.{cycles_past}}
use Rattle.tz_ever.specs.SeamLaws.{ArePast, back_by, cycles_past-are}
use Rattle.tz_ever.proofs.NearLemmas.{ever_total-is}
use Rattle.tz_lookup.specs.{Compiles.{spans_of}, declared.set.FixedTimespanSet.{FixedTimespanSet}}

-- ---- the laws of a zone that goes on
abbrev pub EnoughLaw : Type 0
EnoughLaw = (rulesets : Rulesets) (infos : List ZoneInfo) (set : spans.FixedTimespanSet) (n : ℕ) (t : ℤ) → GoesOn rulesets infos
    → compiled rulesets infos ≡ Ok set → list_all is_bounded_line (zone_lines rulesets infos) ≡ true
    → is_in_offset_range (totals_of set) ≡ true → 300 ≤ n → AreEnough n t
    → (total_for_ever rulesets infos t ≡ total_at (schedule_over n rulesets infos) t)
    × (span_for_ever rulesets infos t ≡ span_told (compiled_over n rulesets infos) t)

abbrev pub RepeatLaw : Type 0
RepeatLaw = (rulesets : Rulesets) (infos : List ZoneInfo) (set : spans.FixedTimespanSet) (t : ℤ) → GoesOn rulesets infos
    → compiled rulesets infos ≡ Ok set → IsFrom2101 t
    → (total_for_ever rulesets infos (instant_on t) ≡ total_for_ever rulesets infos t)
    × (span_for_ever rulesets infos (instant_on t) ≡ span_for_ever rulesets infos t)

abbrev pub BackLaw : Type 0
BackLaw = (rulesets : Rulesets) (infos : List ZoneInfo) (set : spans.FixedTimespanSet) (cycles n : ℕ) (t : ℤ) → GoesOn rulesets infos
    → compiled rulesets infos ≡ Ok set → list_all is_bounded_line (zone_lines rulesets infos) ≡ true
    → is_in_offset_range (totals_of set) ≡ true → IsFrom2101 t → 300 ≤ n → AreEnough n t
    → (total_for_ever rulesets infos (instants_on cycles t) ≡ total_at (schedule_over n rulesets infos) t)
    × (span_for_ever rulesets infos (instants_on cycles t) ≡ span_told (compiled_over n rulesets infos) t)

abbrev pub TotalLaw : Type 0
TotalLaw = (rulesets : Rulesets) (infos : List ZoneInfo) (t : ℤ)
    → total_for_ever rulesets infos t ≡ option_map_or total (span_for_ever rulesets infos t) (pos 0)

-- ---- instants of which 704 years say all
begins_2503 : day (pos (earliest_year + ever_years) -ℤ pos 1) 1 1 ≡ pos 194674
begins_2503 = omega (arith, signed, day-cycle (pos 2503) 1 1 14502 refl, days_through-two (pos 2503))

pub are_enough : (t : ℤ) → t <ℤ pos 16819833600000000000 → AreEnough ever_years t
are_enough t h = subst (λ d. t <ℤ (pos 86400 *ℤ d *ℤ pos 1000000000)) (sym begins_2503) (omega (arith, signed, h))

shows_within : EnoughLaw → (rulesets : Rulesets) (infos : List ZoneInfo) (set : FixedTimespanSet) (t : ℤ) → IsForEver rulesets infos set
    → t <ℤ pos 16819833600000000000 → span_for_ever rulesets infos t ≡ Some (span_at (spans_of set) t)
shows_within enough rulesets infos set t zone h =
    (enough rulesets infos zone.today ever_years t zone.goes_on zone.compiles zone.bounded zone.range (omega arith) (are_enough t h)).1
    ∙ ap (λ r. span_told r t) zone.set_is

same_some : (a b : FixedTimespan) → Some a ≡ Some b → a ≡ b
same_some a b e = cc

pub repeats_at_seam : EnoughLaw → RepeatLaw → (rulesets : Rulesets) (infos : List ZoneInfo) (set : FixedTimespanSet)
    → IsForEver rulesets infos set → IsRepeating set
repeats_at_seam enough repeat rulesets infos set zone = λ t at.
    let after = at.after in
    let before = at.before in
    let late : IsFrom2101 t = omega (arith, signed) in
    same_some (span_at (spans_of set) (instant_on t)) (span_at (spans_of set) t)
    (sym (shows_within enough rulesets infos set (instant_on t) zone (omega (arith, signed)))
    ∙ (repeat rulesets infos zone.today t zone.goes_on zone.compiles late).1
    ∙ shows_within enough rulesets infos set t zone (omega (arith, signed)))

-- ---- brought back
later_by : (k : ℕ) (t : ℤ) → instants_on k t ≡ t +ℤ pos (k * 12622780800000000000)
unfolding instants_on
later_by zero t = omega (arith, signed)
later_by (suc k) t = let rest = later_by k (instant_on t) in rest ∙ omega (arith, signed)

again : (k : ℕ) (t : ℤ) → instants_on k (t -ℤ pos (k * 12622780800000000000)) ≡ t
again k t = later_by k (t -ℤ pos (k * 12622780800000000000)) ∙ omega (arith, signed)

shown_by : EnoughLaw → BackLaw → (rulesets : Rulesets) (infos : List ZoneInfo) (set : FixedTimespanSet) (t : ℤ) (k : ℕ)
    → IsForEver rulesets infos set → ArePast t k
    → span_for_ever rulesets infos t ≡ Some (span_at (spans_of set) (t -ℤ pos (k * 12622780800000000000)))
shown_by enough back rulesets infos set t zero zone past =
    let none : t -ℤ pos (0 * 12622780800000000000) ≡ t = omega (arith, signed) in
    let not_over = past.not_over in
    shows_within enough rulesets infos set t zone (omega (arith, signed)) ∙ ap (λ u. Some (span_at (spans_of set) u)) (sym none)
shown_by enough back rulesets infos set t (suc k) zone past =
    let u = t -ℤ pos (suc k * 12622780800000000000) in
    let begun = past.begun (omega arith) in
    let not_over = past.not_over in
    ap (span_for_ever rulesets infos) (sym (again (suc k) t))
    ∙ (back rulesets infos zone.today (suc k) ever_years u zone.goes_on zone.compiles zone.bounded zone.range
    (omega (arith, signed)) (omega arith) (are_enough u (omega (arith, signed)))).1
    ∙ ap (λ r. span_told r u) zone.set_is

pub shown_for_ever : EnoughLaw → BackLaw → TotalLaw → (rulesets : Rulesets) (infos : List ZoneInfo) (set : FixedTimespanSet) (t : ℤ)
    → IsForEver rulesets infos set
    → (ever_total set t ≡ total_for_ever rulesets infos t) × (Some (ever_span set t) ≡ span_for_ever rulesets infos t)
unfolding ever_span
shown_for_ever enough back totals rulesets infos set t zone =
    let k = cycles_past t in
    let past = cycles_past-are t in
    let span : Some (ever_span set t) ≡ span_for_ever rulesets infos t =
    ap (λ u. Some (span_at (spans_of set) u)) (back_by t k past) ∙ sym (shown_by enough back rulesets infos set t k zone past) in (
      ever_total-is set t ∙ ap (λ o. option_map_or total o (pos 0)) span ∙ sym (totals rulesets infos t),
      span,
    )
