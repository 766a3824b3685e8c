-- Over any number of years that lies two years past an instant's, a zone that goes on shows the same there.
use Rattle.std.proofs.Common.{◌≡◌, refl, [], ◌∷◌, map, true, false, pos, neg_ℤ, List, ◌++◌, arith, ◌≤◌, ℤ, ◌+ℤ◌, ◌*ℤ◌, unsigned_abs, ◌∙◌, sym, ℕ, ◌+◌, Bool, ◌&&◌, ◌≤ℤ◌, nat_le, Some, None, zero, suc, ap, ◌-ℤ◌, length, filter, ◌-◌, inl, inr, not, subst, cond, reverse, ◌<ℤ◌, Ok}
use Rattle.std.proofs.lemmas.{Bool.{and_parts}, Bool.Decides.{nat_tests}, List.{reverse-append}, List.Folds.{list_all-append}}
use Rattle.std.specs.{List.{list_all}, Option.{option_map_or}}
use Rattle.basics.specs.{Cycles.{cycle_days}, Days.{day}, MonthLaws.{days_through-two}, SignedLaws.{signed}, YearLaws.{day-cycle}}
use Rattle.civil_base.specs.Ranges.{is_offset}
use Rattle.zone_table.specs.{LineBounds.{are_small_seconds}, Days.{has_day_of_month}, Ends.{end_day}, declared.change.ChangeTime.{ChangeTime}, Bounds.{is_bounded_rule, is_bounded_info, is_bounded_saving}, Moments.{applies_to_year}, declared.rule.RuleInfo.{RuleInfo}, declared.zone.ZoneInfo.{ZoneInfo}}
use Rattle.zone_spans.specs.{Bounds.{is_bounded_line}, Collapse.{is_no_later, is_same_span, kept_of, kept_with, collapsed, without_first}, Compiled.{compiled, compiled_over}, Entries.{entry_of, Entry, total, sorted_entries_over}}
use Rattle.zone_spans.specs.{Firings.{earliest, fired, year_firings, Firing, is_earlier, firings_of_years}, Lines.{Line, Rulesets, zone_lines}, Schedules.{totals_of, total_at, is_in_offset_range, schedule_over}, Years.{earliest_year}}
use Rattle.zone_spans.specs.{declared.span.FixedTimespan.{FixedTimespan}, declared.span.FixedTimespanSet.{FixedTimespanSet}, GoesOn.{GoesOn, cycle_entries}, Later.{first_fired, later_entries, later_fired}}
use Rattle.tz_ever.specs.{AnyYear.{AreEnough, IsFrom2101, instants_on, is_before_cycle, span_for_ever, span_told, total_for_ever, years_for}, InForce.{has_come}}
use Rattle.tz_ever.proofs.cycle.{BoundLemmas.{FiredFrom, entries_fire, firings_from-low, span-stable_years, year_low}, CollapseLemmas.{kept_of-more}, EverLemmas.{adds_behind, two_kept}, FitLemmas.{are_bounded, fit-for_ever, greatest_of, least_of}}
use Rattle.tz_ever.proofs.cycle.{ForEverLemmas.{repeats-cycles, total_over-is, years-enough}, GoingLemmas.{IsGoing}, MoreLemmas.{HasSet, by_kind, set_of_going, set_over, sorted_entries_over-still}, OrderLemmas.{AllFrom}, SpanLemmas.{same_span}}
use Rattle.tz_ever.proofs.cycle.{StableLemmas.{NoneHasCome, none_has_come}, ZoneLemmas.{sorted_entries_over-more, span_in}}

-- ---- small totals
abbrev pub IsSmallTotal : ℤ → Type 0
IsSmallTotal x = (neg_ℤ (pos 2000000) ≤ℤ x) × (x ≤ℤ pos 2000000)

abbrev pub AllSmall : List Entry → Type 0
AllSmall [] = Unit {0}
AllSmall (e ∷ es) = IsSmallTotal (total e.1) × AllSmall es

kept_with-small : (ks : List Entry) (e : Entry) → AllSmall ks → IsSmallTotal (total e.1) → AllSmall (kept_with ks e)
unfolding kept_with
kept_with-small [] e all h = (h, tt)
kept_with-small (k ∷ []) e all h =
    elim (is_same_span e.1 k.1) as (λ b. AllSmall (cond b (k ∷ []) (e ∷ k ∷ []))) [
      | true ↦ all
      | false ↦ (h, all)
    ]
kept_with-small (k ∷ j ∷ ks) e all h =
    elim (is_no_later e k j) as (λ p. AllSmall (cond p ((k.0, e.1) ∷ j ∷ ks) (cond (is_same_span e.1 k.1) (k ∷ j ∷ ks) (e ∷ k ∷ j ∷ ks)))) [
      | true ↦ (h, all.1)
      | false ↦ elim (is_same_span e.1 k.1) as (λ q. AllSmall (cond q (k ∷ j ∷ ks) (e ∷ k ∷ j ∷ ks))) [
        | true ↦ all
        | false ↦ (h, all)
      ]
    ]

kept_of-small : (es ks : List Entry) → AllSmall ks → AllSmall es → AllSmall (kept_of ks es)
unfolding kept_of
kept_of-small [] ks all es_all = all
kept_of-small (e ∷ es) ks all es_all = kept_of-small es (kept_with ks e) (kept_with-small ks e all es_all.0) es_all.1

small-front : (es gs : List Entry) → AllSmall (es ++ gs) → AllSmall es
small-front [] gs h = tt
small-front (e ∷ es) gs h = (h.0, small-front es gs h.1)

small-behind : (es gs : List Entry) → AllSmall (es ++ gs) → AllSmall gs
small-behind [] gs h = h
small-behind (e ∷ es) gs h = small-behind es gs h.1

small-back : (es : List Entry) → AllSmall (reverse es) → AllSmall es
small-back [] h = tt
small-back (e ∷ es) h =
    let turned = subst AllSmall (reverse-append (e ∷ []) es) h in
    ((small-behind (reverse es) (e ∷ []) turned).0, small-back es (small-front (reverse es) (e ∷ []) turned))

-- ---- those of today's set
fewer : (n : ℕ) → nat_le n 93599 ≡ true → n ≤ 2000000
fewer n h = grind (arith, nat_tests)

small_offset : (o : ℤ) → is_offset o ≡ true → IsSmallTotal o
small_offset o h = let size = fewer (unsigned_abs o) h in (omega (arith, signed, size), omega (arith, signed, size))

small_shifts : (es : List Entry) → list_all (λ (shift : ℤ × ℤ). is_offset shift.1) (map (λ (e : Entry). (e.0, total e.1)) es) ≡ true → AllSmall es
small_shifts [] h = tt
small_shifts (e ∷ es) h =
    let both = and_parts (is_offset (total e.1)) (list_all (λ (shift : ℤ × ℤ). is_offset shift.1) (map (λ (g : Entry). (g.0, total g.1)) es)) h in
    (small_offset (total e.1) both.0, small_shifts es both.1)

small_without : (first : FixedTimespan) (es : List Entry) → IsSmallTotal (total first) → AllSmall (without_first first es) → AllSmall es
unfolding without_first
small_without first [] h all = tt
small_without first (e ∷ es) h all =
    elim (is_same_span e.1 first) as (λ b. is_same_span e.1 first ≡ b → AllSmall (cond b es (e ∷ es)) → AllSmall (e ∷ es)) [
      | true ↦ λ is others. (subst (λ (s : FixedTimespan). IsSmallTotal (total s)) (sym (same_span e.1 first is)) h, others)
      | false ↦ λ is others. others
    ] refl all

small_kept : (first : FixedTimespan) (es : List Entry)
    → is_in_offset_range (totals_of (record { first = first; rest = collapsed first es })) ≡ true → AllSmall (kept_of [] es)
unfolding totals_of collapsed
small_kept first es h =
    let rest = without_first first (reverse (kept_of [] es)) in
    let both = and_parts (is_offset (total first))
    (list_all (λ (shift : ℤ × ℤ). is_offset shift.1) (map (λ (e : Entry). (e.0, total e.1)) rest)) h in
    small-back (kept_of [] es) (small_without first (reverse (kept_of [] es)) (small_offset (total first) both.0) (small_shifts rest both.1))

-- ---- those of later years
small_sum : (o s : ℤ) → neg_ℤ (pos 1000000) ≤ℤ o → o ≤ℤ pos 1000000 → neg_ℤ (pos 1000000) ≤ℤ s → s ≤ℤ pos 1000000 → IsSmallTotal (o +ℤ s)
small_sum o s a b c d = (omega (arith, signed), omega (arith, signed))

small_entries : (line : Line) (low : ℤ) (fs : List Firing) → neg_ℤ (pos 1000000) ≤ℤ line.info.offset → line.info.offset ≤ℤ pos 1000000
    → FiredFrom low fs → AllSmall (map (entry_of line) fs)
small_entries line low [] a b from = tt
small_entries line low (f ∷ fs) a b from =
    (small_sum line.info.offset f.rule.time_to_add a b from.0.least from.0.greatest, small_entries line low fs a b from.1)

-- ---- the saving at the end of 2099
abbrev HaveSmall : List RuleInfo → Type 0
HaveSmall [] = Unit {0}
HaveSmall (r ∷ rs) = (r.time_to_add ≤ℤ pos 1000000) × HaveSmall rs

abbrev ChoiceIsSmall : RuleInfo × List RuleInfo → Type 0
ChoiceIsSmall e = (e.0.time_to_add ≤ℤ pos 1000000) × HaveSmall e.1

earliest-small : (y offset saving : ℤ) (r : RuleInfo) (rs : List RuleInfo) → HaveSmall (r ∷ rs) → ChoiceIsSmall (earliest y offset saving r rs)
unfolding earliest
earliest-small y offset saving r [] all = all
earliest-small y offset saving r (q ∷ qs) all =
    let later = earliest y offset saving q qs in
    let kept : ChoiceIsSmall later = earliest-small y offset saving q qs all.1 in
    elim (is_earlier y offset saving later.0 r) as (λ b. ChoiceIsSmall (cond b (later.0, r ∷ later.1) (r, q ∷ qs))) [
      | true ↦ (kept.0, (all.0, kept.1))
      | false ↦ all
    ]

fired-small : (n : ℕ) (y offset saving : ℤ) (rules : List RuleInfo) → HaveSmall rules → saving ≤ℤ pos 1000000
    → (fired n y offset None saving rules).1 ≤ℤ pos 1000000
unfolding fired
fired-small zero y offset saving rules all h = h
fired-small (suc n) y offset saving [] all h = h
fired-small (suc n) y offset saving (r ∷ rs) all h =
    let next = earliest y offset saving r rs in
    let small = earliest-small y offset saving r rs all in
    fired-small n y offset next.0.time_to_add next.1 small.1 small.0

filtered-small : (test : RuleInfo → Bool) (rules : List RuleInfo) → HaveSmall rules → HaveSmall (filter test rules)
filtered-small test [] all = tt
filtered-small test (r ∷ rs) all =
    elim (test r) as (λ b. HaveSmall (cond b (r ∷ filter test rs) (filter test rs))) [
      | true ↦ (all.0, filtered-small test rs all.1)
      | false ↦ filtered-small test rs all.1
    ]

years-small : (n : ℕ) (offset : ℤ) (rules : List RuleInfo) → HaveSmall rules → (firings_of_years offset None rules n).1 ≤ℤ pos 1000000
unfolding firings_of_years year_firings
years-small zero offset rules all = omega (arith, signed)
years-small (suc n) offset rules all =
    let y = pos (earliest_year + n) in
    let applying = filter (λ (r : RuleInfo). applies_to_year r y) rules in
    fired-small (length applying) y offset (firings_of_years offset None rules n).1 applying
    (filtered-small (λ (r : RuleInfo). applies_to_year r y) rules all) (years-small n offset rules all)

have_small : (rules : List RuleInfo) → are_bounded rules ≡ true → HaveSmall rules
have_small [] h = tt
have_small (r ∷ rs) h =
    let both = and_parts (is_bounded_rule r) (are_bounded rs) h in
    let parts = and_parts (has_day_of_month r.day && are_small_seconds r.time) (are_small_seconds r.time_to_add) both.0 in
    (greatest_of r.time_to_add parts.1, have_small rs both.1)

-- ---- a line whose numbers are small
pub record IsBounded (line : Line) : Type 0 where
  pub least : neg_ℤ (pos 1000000) ≤ℤ line.info.offset
  pub greatest : line.info.offset ≤ℤ pos 1000000
  pub rules : are_bounded line.rules ≡ true

bounded_of : (line : Line) → is_bounded_line line ≡ true → IsBounded line
unfolding is_bounded_line
bounded_of line h =
    let end = option_map_or (λ (e : ChangeTime). has_day_of_month (end_day e)) line.end true in
    let end_time = option_map_or (λ (e : ChangeTime). has_day_of_month (end_day e)) line.info.end_time true in
    let small = are_small_seconds line.info.offset in
    let saving = is_bounded_saving line.info.saving in
    let parts = and_parts (is_bounded_info line.info && list_all is_bounded_rule line.rules) end h in
    let both = and_parts (is_bounded_info line.info) (list_all is_bounded_rule line.rules) parts.0 in
    let info = and_parts small saving (and_parts (small && saving) end_time both.0).0 in
    record {
      least = least_of line.info.offset info.0;
      greatest = greatest_of line.info.offset info.0;
      rules = both.1;
    }

last_bounded : (front : List Line) (last : Line) → list_all is_bounded_line (front ++ (last ∷ [])) ≡ true → IsBounded last
last_bounded front last h =
    let parts = and_parts (list_all is_bounded_line front) (list_all is_bounded_line (last ∷ []))
    (sym (list_all-append is_bounded_line front (last ∷ [])) ∙ h) in
    bounded_of last (and_parts (is_bounded_line last) true parts.1).0

-- ---- the years
days_of_year : (n : ℕ) → (day (pos (earliest_year + n) -ℤ pos 1) 1 1 +ℤ pos 365) ≤ℤ day (pos (earliest_year + n)) 1 1
days_of_year n =
    let y = pos (earliest_year + n) in
    let z = pos (earliest_year + n) -ℤ pos 1 in
    let here : y +ℤ pos 11999 ≡ pos (suc (n + 13798)) = omega (arith, signed) in
    let before : z +ℤ pos 11999 ≡ pos (n + 13798) = omega (arith, signed) in
    omega (
      arith,
      signed,
      day-cycle y 1 1 (suc (n + 13798)) here,
      day-cycle z 1 1 (n + 13798) before,
      days_through-two y,
      days_through-two z,
      year_has (n + 13798),
    )
  where
    year_has : (m : ℕ) → cycle_days m + 365 ≤ cycle_days (suc m)
    year_has m = omega arith

far_before : (t d e : ℤ) → t <ℤ (pos 86400 *ℤ d *ℤ pos 1000000000) → (d +ℤ pos 365) ≤ℤ e
    → t <ℤ ((pos 86400 *ℤ e -ℤ pos 3000000 -ℤ pos 4000000) *ℤ pos 1000000000)
far_before t d e h k = omega (arith, signed)

before_low : (n : ℕ) (t : ℤ) → AreEnough n t → t <ℤ ((year_low (pos (earliest_year + n)) -ℤ pos 4000000) *ℤ pos 1000000000)
unfolding year_low
before_low n t h =
    far_before t (day (pos (earliest_year + n) -ℤ pos 1) 1 1) (day (pos (earliest_year + n)) 1 1) h (days_of_year n)

-- ---- more years
more_years : (front : List Line) (last : Line) (k j : ℕ) (first : FixedTimespan) (t : ℤ) → IsGoing front last → IsBounded last
    → is_in_offset_range (totals_of (set_over first 300 (front ++ (last ∷ [])))) ≡ true → AreEnough (k + 300) t
    → span_in first (sorted_entries_over (j + k + 300) (front ++ (last ∷ []))) t
    ≡ span_in first (sorted_entries_over (k + 300) (front ++ (last ∷ []))) t
more_years front last k j first t going bounded range enough =
    let zone = front ++ (last ∷ []) in
    elim (by_kind front last going) [
      | inl still ↦ ap (λ es. span_in first es t) (sorted_entries_over-still front last (j + k) going still
          ∙ sym (sorted_entries_over-still front last k going still))
      | inr turned ↦
          let turn = turned.turn in
          let on = adds_behind front last 300 turn.tested in
          let fit = fit-for_ever last.rules going.settled bounded.rules going.stays in
          let saving = years-small 300 last.info.offset last.rules (have_small last.rules bounded.rules) in
          let gs = later_entries last 300 k in
          let low = year_low (pos (earliest_year + 300)) in
          let fired = (firings_from-low 300 k last.info.offset (first_fired last 300).1 last.rules going.settled (omega arith) fit bounded.greatest saving).0 in
          let small = kept_of-small gs (kept_of [] (sorted_entries_over 300 zone)) (small_kept first (sorted_entries_over 300 zone) range)
          (small_entries last low (later_fired last 300 k) bounded.least bounded.greatest fired) in
          let kept : kept_of [] (sorted_entries_over (k + 300) zone) ≡ kept_of (kept_of [] (sorted_entries_over 300 zone)) gs =
          ap (kept_of []) (sorted_entries_over-more front last 300 k on) ∙ kept_of-more (sorted_entries_over 300 zone) gs [] in
          let two = two_kept gs turn.latest turn.second turn.before in
          let all : kept_of [] (sorted_entries_over (k + 300) zone) ≡ two.one ∷ two.two ∷ two.others =
          kept ∙ ap (λ ks. kept_of ks gs) turn.here_is ∙ two.all in
          let those = subst AllSmall all (subst AllSmall (sym kept) small) in
          span-stable_years front last 300 k j first t on fit bounded.greatest saving
          (record { one = two.one; two = two.two; others = two.others; all = all; least = those.0.0; greatest = those.1.0.1 })
          (before_low (k + 300) t enough)
    ]

-- ---- the law
span_over-stable : (rulesets : Rulesets) (infos : List ZoneInfo) (set : FixedTimespanSet) (n m : ℕ) (t : ℤ) → HasSet rulesets infos set
    → list_all is_bounded_line (zone_lines rulesets infos) ≡ true → is_in_offset_range (totals_of set) ≡ true
    → 300 ≤ n → 300 ≤ m → AreEnough n t → AreEnough m t
    → span_told (compiled_over n rulesets infos) t ≡ span_told (compiled_over m rulesets infos) t
span_over-stable rulesets infos set n m t has bounded range n_many m_many n_enough m_enough =
    let zone = has.front ++ (has.last ∷ []) in
    let is_bounded = last_bounded has.front has.last (sym (ap (list_all is_bounded_line) has.lines) ∙ bounded) in
    let in_range = sym (ap (λ (s : FixedTimespanSet). is_in_offset_range (totals_of s)) has.set_is) ∙ range in
    let a = n - 300 in
    let b = m - 300 in
    let n_is : n ≡ a + 300 = omega (arith, n_many) in
    let m_is : m ≡ b + 300 = omega (arith, m_many) in
    let turned : a + b + 300 ≡ b + a + 300 = omega arith in
    let one = more_years has.front has.last a b has.first t has.going is_bounded in_range (subst (λ k. AreEnough k t) n_is n_enough) in
    let two = more_years has.front has.last b a has.first t has.going is_bounded in_range (subst (λ k. AreEnough k t) m_is m_enough) in
    ap (λ k. span_told (compiled_over k rulesets infos) t) n_is
    ∙ ap (λ r. span_told r t) (has.more a)
    ∙ ap (λ s. Some s) (sym one ∙ ap (λ k. span_in has.first (sorted_entries_over k zone) t) (sym turned) ∙ two)
    ∙ sym (ap (λ r. span_told r t) (has.more b))
    ∙ ap (λ k. span_told (compiled_over k rulesets infos) t) (sym m_is)

pub stable-at : (rulesets : Rulesets) (infos : List ZoneInfo) (set : FixedTimespanSet) (n m : ℕ) (t : ℤ) → GoesOn rulesets infos
    → compiled rulesets infos ≡ Ok set → list_all is_bounded_line (zone_lines rulesets infos) ≡ true → is_in_offset_range (totals_of set) ≡ true
    → 300 ≤ n → 300 ≤ m → AreEnough n t → AreEnough m t
    → (total_at (schedule_over n rulesets infos) t ≡ total_at (schedule_over m rulesets infos) t)
    × (span_told (compiled_over n rulesets infos) t ≡ span_told (compiled_over m rulesets infos) t)
stable-at rulesets infos set n m t on ok bounded range n_many m_many n_enough m_enough =
    let span = span_over-stable rulesets infos set n m t (set_of_going rulesets infos set on ok) bounded range n_many m_many n_enough m_enough in (
      total_over-is n rulesets infos t ∙ ap (λ o. option_map_or total o (pos 0)) span ∙ sym (total_over-is m rulesets infos t),
      span,
    )

-- over any such number of years it shows what it does for ever
pub enough-at : (rulesets : Rulesets) (infos : List ZoneInfo) (set : FixedTimespanSet) (n : ℕ) (t : ℤ) → GoesOn rulesets infos
    → compiled rulesets infos ≡ Ok set → list_all is_bounded_line (zone_lines rulesets infos) ≡ true → is_in_offset_range (totals_of set) ≡ true
    → 300 ≤ n → AreEnough n t
    → (total_for_ever rulesets infos t ≡ total_at (schedule_over n rulesets infos) t)
    × (span_for_ever rulesets infos t ≡ span_told (compiled_over n rulesets infos) t)
unfolding total_for_ever span_for_ever
enough-at rulesets infos set n t on ok bounded range many enough =
    let years = years-enough t in
    stable-at rulesets infos set (years_for t) n t on ok bounded range years.0 many years.1 enough

-- an instant brought back by whole cycles
pub brought_back-at : (rulesets : Rulesets) (infos : List ZoneInfo) (set : FixedTimespanSet) (cycles n : ℕ) (t : ℤ) → GoesOn rulesets infos
    → compiled rulesets infos ≡ Ok set → list_all is_bounded_line (zone_lines rulesets infos) ≡ true → is_in_offset_range (totals_of set) ≡ true
    → IsFrom2101 t → 300 ≤ n → AreEnough n t
    → (total_for_ever rulesets infos (instants_on cycles t) ≡ total_at (schedule_over n rulesets infos) t)
    × (span_for_ever rulesets infos (instants_on cycles t) ≡ span_told (compiled_over n rulesets infos) t)
brought_back-at rulesets infos set cycles n t on ok bounded range late many enough =
    let back = repeats-cycles rulesets infos set cycles t on ok late in
    let here = enough-at rulesets infos set n t on ok bounded range many enough in
    (back.0 ∙ here.0, back.1 ∙ here.1)

-- ---- before 2100
none_until : (t : ℤ) (es : List Entry) → NoneHasCome t es → list_all (λ (e : Entry). not (has_come t e)) es ≡ true
none_until t [] h = refl
none_until t (e ∷ es) h = rw h.0 (none_until t es h.1)

begins_2100 : year_low (pos (earliest_year + 300)) ≡ pos 4099444800
unfolding year_low
begins_2100 = omega (arith, signed, day-cycle (pos 2100) 1 1 14099 refl, days_through-two (pos 2100))

before_2100-in : (rulesets : Rulesets) (infos : List ZoneInfo) (set : FixedTimespanSet) (t : ℤ) → HasSet rulesets infos set
    → list_all is_bounded_line (zone_lines rulesets infos) ≡ true → t <ℤ (pos 4099444800 *ℤ pos 1000000000)
    → is_before_cycle (zone_lines rulesets infos) t ≡ true
unfolding is_before_cycle
before_2100-in rulesets infos set t has bounded early =
    let last = has.last in
    let is_bounded = last_bounded has.front last (sym (ap (list_all is_bounded_line) has.lines) ∙ bounded) in
    let fit = fit-for_ever last.rules has.going.settled is_bounded.rules has.going.stays in
    let saving = years-small 300 last.info.offset last.rules (have_small last.rules is_bounded.rules) in
    let fired = (firings_from-low 300 400 last.info.offset (first_fired last 300).1 last.rules has.going.settled (omega arith) fit is_bounded.greatest saving).0 in
    let from = subst (λ low. AllFrom low (cycle_entries last)) begins_2100
    (entries_fire last (year_low (pos (earliest_year + 300))) (later_fired last 300 400) fired) in
    ap (λ o. option_map_or (λ (l : Line). list_all (λ (e : Entry). not (has_come t e)) (cycle_entries l)) o true) has.last_is
    ∙ none_until t (cycle_entries last) (none_has_come t (pos 4099444800) (cycle_entries last) early from)

pub before_2100-at : (rulesets : Rulesets) (infos : List ZoneInfo) (set : FixedTimespanSet) (t : ℤ) → GoesOn rulesets infos
    → compiled rulesets infos ≡ Ok set → list_all is_bounded_line (zone_lines rulesets infos) ≡ true
    → t <ℤ (pos 4099444800 *ℤ pos 1000000000) → is_before_cycle (zone_lines rulesets infos) t ≡ true
before_2100-at rulesets infos set t on ok bounded early =
    before_2100-in rulesets infos set t (set_of_going rulesets infos set on ok) bounded early
