-- What a zone that goes on shows for ever.
use Rattle.std.proofs.Common.{◌≡◌, List, [], ◌∷◌, Some, None, ℤ, pos, refl, ℕ, zero, suc, ap, ◌∙◌, arith, ◌+ℤ◌, ◌-ℤ◌, ◌*ℤ◌, ◌≤ℤ◌, ◌+◌, ◌≤◌, true, ◌++◌, sym, ◌*◌, ◌<◌, inl, inr, not, int_le, int_lt, subst, neg_ℤ, unsigned_abs, reverse, ◌<ℤ◌, Result, Err, Ok, ◌/◌}
use Rattle.std.proofs.lemmas.{Bool.{cases_Bool, and_parts}, List.{reverse-append}}
use Rattle.std.specs.{List.{list_all}, Option.{option_map_or}}
use Rattle.basics.specs.{Sorted.{stable_sort}, ComparisonLaws.{lt_fail, lt_from_fail, lt_from_pass, le_pass}, Days.{day}, MonthLaws.{days_through-two}, SignedLaws.{signed, natural}, YearLaws.{day-cycle}}
use Rattle.zone_table.specs.declared.zone.ZoneInfo.{ZoneInfo}
use Rattle.zone_spans.specs.{Collapse.{kept_of}, Compiled.{compiled, compiled_over}, Entries.{is_sooner, Entry, total, entries_from_over, sorted_entries_over}, Lines.{Line, Rulesets, zone_lines}, Schedules.{totals_of, total_at, totals_told, schedule_over}}
use Rattle.zone_spans.specs.{Years.{earliest_year}, declared.fault.SpanFault.{SpanFault}, declared.span.FixedTimespan.{FixedTimespan}, declared.span.FixedTimespanSet.{FixedTimespanSet}, Cycle.{instant_on, next_cycle}, GoesOn.{GoesOn, cycle_entries, last_of}}
use Rattle.tz_ever.specs.{AnyYear.{AreEnough, IsFrom2101, cycles_at, instants_on, is_before_cycle, span_for_ever, span_told, total_for_ever, years_for}, InForce.{has_come, span_at, span_by}, InForceLaws.{total_at-is}}
use Rattle.tz_ever.proofs.cycle.{BackLemmas.{span-as_before}, DayLemmas.{day-repeats}, EverLemmas.{span-turns}, GoingLemmas.{IsGoing}, MoreLemmas.{HasSet, by_kind, set_of_going, sorted_entries_over-still}, SortLemmas.{AllAreBelow, AllAreBelow-sorted}}
use Rattle.tz_ever.proofs.cycle.{StableLemmas.{NoneHasCome}, TestLemmas.{all_early, kept_of-below, not_true}, ZoneLemmas.{span_in, span_in-is}}

-- ---- from 2101 on all that came before 2100 has come
come_by : (x t : ℤ) → int_lt x (pos 4133980800) ≡ true → pos 4133980800000000000 ≤ℤ t → int_le (x *ℤ pos 1000000000) t ≡ true
come_by x t h late =
    let early : x <ℤ pos 4133980800 = lt_from_pass x (pos 4133980800) h in
    le_pass (x *ℤ pos 1000000000) t (omega (arith, signed))

all_come : (span : FixedTimespan) (es : List Entry) (first : FixedTimespan) (t u : ℤ) → AllAreBelow is_sooner (pos 4133980800, span) es
    → pos 4133980800000000000 ≤ℤ t → pos 4133980800000000000 ≤ℤ u → span_by first es t ≡ span_by first es u
unfolding span_by
all_come span [] first t u all h k = refl
all_come span (e ∷ es) first t u all h k = rw (come_by e.0 t all.0 h, come_by e.0 u all.0 k) (all_come span es e.1 t u all.1 h k)

below-append : (x : Entry) (es gs : List Entry) → AllAreBelow is_sooner x es → AllAreBelow is_sooner x gs → AllAreBelow is_sooner x (es ++ gs)
below-append x [] gs h k = k
below-append x (e ∷ es) gs h k = (h.0, below-append x es gs h.1 k)

below-reverse : (x : Entry) (es : List Entry) → AllAreBelow is_sooner x es → AllAreBelow is_sooner x (reverse es)
below-reverse x [] h = tt
below-reverse x (e ∷ es) h =
    subst (AllAreBelow is_sooner x) (sym (reverse-append (e ∷ []) es)) (below-append x (reverse es) (e ∷ []) (below-reverse x es h.1) (h.0, tt))

still_shows : (front : List Line) (last : Line) (first : FixedTimespan) (t u : ℤ) → IsGoing front last
    → pos 4133980800000000000 ≤ℤ t → pos 4133980800000000000 ≤ℤ u
    → span_in first (sorted_entries_over 300 (front ++ (last ∷ []))) t ≡ span_in first (sorted_entries_over 300 (front ++ (last ∷ []))) u
unfolding sorted_entries_over
still_shows front last first t u going h k =
    let x : Entry = (pos 4133980800, first) in
    let raw = entries_from_over 300 None (front ++ (last ∷ [])) in
    let es = stable_sort is_sooner raw in
    let sorted = AllAreBelow-sorted is_sooner x raw (all_early x raw going.early) in
    let all = below-reverse x (kept_of [] es) (kept_of-below x es [] tt sorted) in
    span_in-is first es t ∙ all_come first (reverse (kept_of [] es)) first t u all h k ∙ sym (span_in-is first es u)

-- ---- a cycle later
repeats_in : (front : List Line) (last : Line) (k : ℕ) (first : FixedTimespan) (t : ℤ) → IsGoing front last → pos 4133980800000000000 ≤ℤ t
    → span_in first (sorted_entries_over (k + 400 + 300) (front ++ (last ∷ []))) (instant_on t)
    ≡ span_in first (sorted_entries_over (k + 300) (front ++ (last ∷ []))) t
repeats_in front last k first t going late =
    let zone = front ++ (last ∷ []) in
    elim (by_kind front last going) [
      | inl still ↦
          ap (λ es. span_in first es (instant_on t)) (sorted_entries_over-still front last (k + 400) going still)
          ∙ still_shows front last first (instant_on t) t going (omega (arith, signed)) late
          ∙ ap (λ es. span_in first es t) (sym (sorted_entries_over-still front last k going still))
      | inr turned ↦
          let same : k + 400 + 300 ≡ k + (300 + 400) = omega arith in
          ap (λ n. span_in first (sorted_entries_over n zone) (instant_on t)) same
          ∙ span-turns k front last 300 first t turned.turn (come_by turned.turn.second.0 t turned.early late)
    ]

later_size : (t : ℤ) → neg_ℤ (pos 8551872000000000000) ≤ℤ t
    → unsigned_abs (instant_on t +ℤ pos 8551872000000000000) ≡ unsigned_abs (t +ℤ pos 8551872000000000000) + 12622780800000000000
later_size t h =
    let a = unsigned_abs (t +ℤ pos 8551872000000000000) in
    let whole : t +ℤ pos 8551872000000000000 ≡ pos a = natural (t +ℤ pos 8551872000000000000) (omega (arith, signed)) in
    let later : instant_on t +ℤ pos 8551872000000000000 ≡ pos (a + 12622780800000000000) = omega (arith, signed) in
    ap unsigned_abs later

one_more : (a : ℕ) → (a + 12622780800000000000) / 12622780800000000000 ≡ suc (a / 12622780800000000000)
one_more a = omega arith

cycles_at-on : (t : ℤ) → neg_ℤ (pos 8551872000000000000) ≤ℤ t → cycles_at (instant_on t) ≡ suc (cycles_at t)
unfolding cycles_at
cycles_at-on t h =
    let there : neg_ℤ (pos 8551872000000000000) ≤ℤ instant_on t = omega (arith, signed) in
    rw (
      lt_fail t (neg_ℤ (pos 8551872000000000000)) h,
      lt_fail (instant_on t) (neg_ℤ (pos 8551872000000000000)) there,
      later_size t h,
    )
    (one_more (unsigned_abs (t +ℤ pos 8551872000000000000)))

pub span_for_ever-repeats : (rulesets : Rulesets) (infos : List ZoneInfo) (set : FixedTimespanSet) (t : ℤ) → HasSet rulesets infos set
    → pos 4133980800000000000 ≤ℤ t → span_for_ever rulesets infos (instant_on t) ≡ span_for_ever rulesets infos t
unfolding span_for_ever years_for
span_for_ever-repeats rulesets infos set t has late =
    let c = cycles_at t in
    let next : suc c * 400 + 300 ≡ c * 400 + 400 + 300 = omega arith in
    ap (λ n. span_told (compiled_over (n * 400 + 300) rulesets infos) (instant_on t)) (cycles_at-on t (omega (arith, signed)))
    ∙ ap (λ n. span_told (compiled_over n rulesets infos) (instant_on t)) next
    ∙ ap (λ r. span_told r (instant_on t)) (has.more (c * 400 + 400))
    ∙ ap (λ s. Some s) (repeats_in has.front has.last (c * 400) has.first t has.going late)
    ∙ sym (ap (λ r. span_told r t) (has.more (c * 400)))

-- ---- totals
total-told : (due : Result FixedTimespanSet SpanFault) (t : ℤ) → total_at (totals_told due) t ≡ option_map_or total (span_told due t) (pos 0)
unfolding total_at
total-told (Ok set) t = total_at-is set t
total-told (Err fault) t = refl

pub total_over-is : (n : ℕ) (rulesets : Rulesets) (infos : List ZoneInfo) (t : ℤ)
    → total_at (schedule_over n rulesets infos) t ≡ option_map_or total (span_told (compiled_over n rulesets infos) t) (pos 0)
unfolding schedule_over
total_over-is n rulesets infos t = total-told (compiled_over n rulesets infos) t

pub total_for_ever-is : (rulesets : Rulesets) (infos : List ZoneInfo) (t : ℤ)
    → total_for_ever rulesets infos t ≡ option_map_or total (span_for_ever rulesets infos t) (pos 0)
unfolding total_for_ever span_for_ever
total_for_ever-is rulesets infos t = total_over-is (years_for t) rulesets infos t

-- ---- before the cycle
none_by : (t : ℤ) (es : List Entry) → list_all (λ (e : Entry). not (has_come t e)) es ≡ true → NoneHasCome t es
none_by t [] h = tt
none_by t (e ∷ es) h =
    let both = and_parts (not (has_come t e)) (list_all (λ (g : Entry). not (has_come t g)) es) h in
    (not_true (has_come t e) both.0, none_by t es both.1)

none_of : (lines : List Line) (last : Line) (t : ℤ) → last_of lines ≡ Some last → is_before_cycle lines t ≡ true
    → NoneHasCome t (cycle_entries last)
unfolding is_before_cycle
none_of lines last t is before =
    none_by t (cycle_entries last)
    (subst (λ o. option_map_or (λ (l : Line). list_all (λ (e : Entry). not (has_come t e)) (cycle_entries l)) o true ≡ true) is before)

before_in : (front : List Line) (last : Line) (k : ℕ) (first : FixedTimespan) (t : ℤ) → IsGoing front last
    → NoneHasCome t (cycle_entries last)
    → span_in first (sorted_entries_over (k + 300) (front ++ (last ∷ []))) t
    ≡ span_in first (sorted_entries_over 300 (front ++ (last ∷ []))) t
before_in front last k first t going none =
    elim (by_kind front last going) [
      | inl still ↦ ap (λ es. span_in first es t) (sorted_entries_over-still front last k going still)
      | inr turned ↦ span-as_before k front last 300 first t turned.turn turned.apart (turned.begins t none)
    ]

pub span_for_ever-as_before : (rulesets : Rulesets) (infos : List ZoneInfo) (set : FixedTimespanSet) (t : ℤ) → HasSet rulesets infos set
    → is_before_cycle (zone_lines rulesets infos) t ≡ true → span_for_ever rulesets infos t ≡ Some (span_at set t)
unfolding span_for_ever years_for
span_for_ever-as_before rulesets infos set t has before =
    let c = cycles_at t in
    ap (λ r. span_told r t) (has.more (c * 400))
    ∙ ap (λ s. Some s) (before_in has.front has.last (c * 400) has.first t has.going
    (none_of (zone_lines rulesets infos) has.last t has.last_is before))
    ∙ ap (λ (s : FixedTimespanSet). Some (span_at s t)) (sym has.set_is)

pub total_for_ever-as_before : (rulesets : Rulesets) (infos : List ZoneInfo) (set : FixedTimespanSet) (t : ℤ) → HasSet rulesets infos set
    → is_before_cycle (zone_lines rulesets infos) t ≡ true → total_for_ever rulesets infos t ≡ total_at (totals_of set) t
total_for_ever-as_before rulesets infos set t has before =
    total_for_ever-is rulesets infos t
    ∙ ap (λ o. option_map_or total o (pos 0)) (span_for_ever-as_before rulesets infos set t has before)
    ∙ sym (total_at-is set t)

-- ---- the years of an instant
first_day : (c : ℕ) → day (pos (earliest_year + (c * 400 + 300)) -ℤ pos 1) 1 1 ≡ pos (47117 + c * 146097)
first_day zero = omega (arith, signed, day-cycle (pos 2099) 1 1 14098 refl, days_through-two (pos 2099))
first_day (suc c) =
    let y = pos (earliest_year + (c * 400 + 300)) -ℤ pos 1 in
    let next : pos (earliest_year + (suc c * 400 + 300)) -ℤ pos 1 ≡ next_cycle y = omega (arith, signed) in
    let here = ap (λ z. day z 1 1) next ∙ day-repeats y 1 1 (omega (arith, signed)) in
    let before = first_day c in
    omega (arith, signed, here, before)

in_cycles : (a : ℕ) → a < suc (a / 12622780800000000000) * 12622780800000000000
in_cycles a = omega arith

within : (t : ℤ) (a c : ℕ) → t +ℤ pos 8551872000000000000 ≡ pos a → a < suc c * 12622780800000000000
    → t <ℤ (pos 86400 *ℤ pos (47117 + c * 146097) *ℤ pos 1000000000)
within t a c is below = omega (arith, signed)

early_enough : (t : ℤ) → t <ℤ neg_ℤ (pos 8551872000000000000) → t <ℤ (pos 86400 *ℤ pos (47117 + 0 * 146097) *ℤ pos 1000000000)
early_enough t h = omega (arith, signed)

before_last : (t : ℤ) → t <ℤ (pos 86400 *ℤ pos (47117 + cycles_at t * 146097) *ℤ pos 1000000000)
unfolding cycles_at
before_last t =
    let begins = neg_ℤ (pos 8551872000000000000) in
    let a = unsigned_abs (t +ℤ pos 8551872000000000000) in
    elim (cases_Bool (int_lt t begins)) [
      | inl early ↦ rw early (early_enough t (lt_from_pass t begins early))
      | inr late ↦
          let from : begins ≤ℤ t = lt_from_fail t begins late in
          let whole : t +ℤ pos 8551872000000000000 ≡ pos a = natural (t +ℤ pos 8551872000000000000) (omega (arith, signed)) in
          rw late (within t a (a / 12622780800000000000) whole (in_cycles a))
    ]

pub years_for-are_enough : (t : ℤ) → AreEnough (years_for t) t
unfolding years_for
years_for-are_enough t =
    subst (λ d. t <ℤ (pos 86400 *ℤ d *ℤ pos 1000000000)) (sym (first_day (cycles_at t))) (before_last t)

-- ---- whole cycles
pub later_or_equal : (t : ℤ) → pos 4133980800000000000 ≤ℤ t → pos 4133980800000000000 ≤ℤ instant_on t
later_or_equal t h = omega (arith, signed)

pub span_for_ever-some_cycles : (rulesets : Rulesets) (infos : List ZoneInfo) (set : FixedTimespanSet) (cycles : ℕ) (t : ℤ)
    → HasSet rulesets infos set → pos 4133980800000000000 ≤ℤ t
    → span_for_ever rulesets infos (instants_on cycles t) ≡ span_for_ever rulesets infos t
unfolding instants_on
span_for_ever-some_cycles rulesets infos set zero t has late = refl
span_for_ever-some_cycles rulesets infos set (suc cycles) t has late =
    span_for_ever-some_cycles rulesets infos set cycles (instant_on t) has (later_or_equal t late)
    ∙ span_for_ever-repeats rulesets infos set t has late

-- ---- the laws of a zone that goes on
pub repeats-at : (rulesets : Rulesets) (infos : List ZoneInfo) (set : FixedTimespanSet) (t : ℤ) → GoesOn rulesets infos
    → compiled rulesets infos ≡ Ok set → IsFrom2101 t
    → (total_for_ever rulesets infos (instant_on t) ≡ total_for_ever rulesets infos t)
    × (span_for_ever rulesets infos (instant_on t) ≡ span_for_ever rulesets infos t)
repeats-at rulesets infos set t on ok late =
    let span = span_for_ever-repeats rulesets infos set t (set_of_going rulesets infos set on ok) late in (
      total_for_ever-is rulesets infos (instant_on t) ∙ ap (λ o. option_map_or total o (pos 0)) span
          ∙ sym (total_for_ever-is rulesets infos t),
      span,
    )

pub repeats-cycles : (rulesets : Rulesets) (infos : List ZoneInfo) (set : FixedTimespanSet) (cycles : ℕ) (t : ℤ) → GoesOn rulesets infos
    → compiled rulesets infos ≡ Ok set → IsFrom2101 t
    → (total_for_ever rulesets infos (instants_on cycles t) ≡ total_for_ever rulesets infos t)
    × (span_for_ever rulesets infos (instants_on cycles t) ≡ span_for_ever rulesets infos t)
repeats-cycles rulesets infos set cycles t on ok late =
    let span = span_for_ever-some_cycles rulesets infos set cycles t (set_of_going rulesets infos set on ok) late in (
      total_for_ever-is rulesets infos (instants_on cycles t) ∙ ap (λ o. option_map_or total o (pos 0)) span
          ∙ sym (total_for_ever-is rulesets infos t),
      span,
    )

pub as_before-at : (rulesets : Rulesets) (infos : List ZoneInfo) (set : FixedTimespanSet) (t : ℤ) → GoesOn rulesets infos
    → compiled rulesets infos ≡ Ok set → is_before_cycle (zone_lines rulesets infos) t ≡ true
    → (total_for_ever rulesets infos t ≡ total_at (totals_of set) t)
    × (span_for_ever rulesets infos t ≡ Some (span_at set t))
as_before-at rulesets infos set t on ok before =
    let has = set_of_going rulesets infos set on ok in
    (total_for_ever-as_before rulesets infos set t has before, span_for_ever-as_before rulesets infos set t has before)

pub years-enough : (t : ℤ) → (300 ≤ years_for t) × AreEnough (years_for t) t
unfolding years_for
years-enough t = let many : 300 ≤ cycles_at t * 400 + 300 = omega arith in (many, years_for-are_enough t)
