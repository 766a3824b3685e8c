-- A set with the entries of 20 cycles more: it can be looked up, and shows what the set shows for ever.
use Rattle.std.proofs.Common.{◌≡◌, ℕ, zero, suc, ◌*◌, ◌<◌, Bool, true, false, ◌&&◌, cond, List, [], ◌∷◌, ◌++◌, length, map, filter, ℤ, pos, neg_ℤ, ◌+ℤ◌, ◌-ℤ◌, ◌≤ℤ◌, ◌<ℤ◌, int_le, int_lt, refl, sym, ap, ◌∙◌, arith, inl, inr}
use Rattle.std.proofs.lemmas.Bool.{and_parts, cases_Bool}
use Rattle.std.specs.List.{list_all}
use Rattle.basics.specs.{ComparisonLaws.{le_from_lt, le_itself, le_le, lt_from_fail, lt_from_pass}, SignedLaws.{signed}}
use Rattle.civil_base.specs.{Instants.{instant_at}, Ranges.{IsOffset, is_offset}}
use Rattle.zone_spans.specs.{Cycle.{entry_on, instant_on}, Entries.{Entry, total}, Schedules.{total_at}, declared.span.FixedTimespan.{FixedTimespan}}
use Rattle.tz_lookup.specs.{Compiles.{spans_of}, InForce.{all_in_force}, Sets.{AreSpanTimes, IsAccepted, IsSpanTime, schedule_of, shift_of}, Spans.{Shift, TimesDontFall, shift_at}, declared.set.FixedTimespanSet.{FixedTimespanSet}}
use Rattle.tz_ever.specs.{Ever.{IsRepeating, ever_span, ever_total}, InForce.{span_at, span_by}, Seam.{cycles_past, next_seam, seam}, Unrolled.{again, entries_before, entries_from, next_seam_second, seam_second, unrolled, unrolled_end, unrolled_entries}}
use Rattle.tz_ever.specs.SeamLaws.{ArePast, back_by, back_is, cycles_past-are}
use Rattle.tz_ever.proofs.{NearLemmas.{ever_total-is, near_after, total_is}, TotalLemmas.{same_in_force}, UnrolledLemmas.{Climb, IsCutAt, Leaves, again_shows, all_come, climb_again, climb_higher, climb_join, cut_at, earlier, none_come}}
use Rattle.tz_ever.proofs.cycle.SpanLemmas.{span_by-more}

-- ---- times that don't fall climb
abbrev pub least : ℤ
least = neg_ℤ (pos 1099511627776)

abbrev pub past_greatest : ℤ
past_greatest = pos 1099511627777

at_most : (x : ℤ) → IsSpanTime x → (least ≤ℤ x) × (x <ℤ past_greatest)
at_most x h = (h.0, omega (arith, signed, h.1))

bound_tail : (s : Shift) (ss : List Shift) → AreSpanTimes (s ∷ ss) → AreSpanTimes ss
bound_tail s ss h = λ k d l. h (suc k) d (omega arith)

climb_of : (es : List Entry) (low : ℤ) → low <ℤ past_greatest → AreSpanTimes (map shift_of es) → TimesDontFall (map shift_of es)
    → ((j : ℕ) → j < length (map shift_of es) → low ≤ℤ (shift_at (map shift_of es) j).0) → Climb low es past_greatest
climb_of [] low small bound falls from = le_from_lt _ _ small
climb_of (e ∷ es) low small bound falls from =
    let here = (at_most e.0 (bound 0 (pos 0, pos 0) (omega arith))).1 in (
      from 0 (omega arith),
      here,
      climb_of es e.0 here (bound_tail (shift_of e) (map shift_of es) bound) (λ i j h l. falls (suc i) (suc j) (omega arith) (omega arith))
          (λ j l. falls 0 (suc j) (omega arith) (omega arith)),
    )

pub set_climbs : (set : FixedTimespanSet) → IsAccepted (schedule_of set) → Climb least set.others past_greatest
set_climbs set ok = climb_of set.others least (omega (arith, signed)) ok.bound ok.times
    (λ j l. (ok.bound j (pos 0, pos 0) l).0)

-- ---- and what climbs doesn't fall
pub climb_at : (low : ℤ) (es : List Entry) (high : ℤ) (j : ℕ) → Climb low es high → j < length (map shift_of es)
    → (low ≤ℤ (shift_at (map shift_of es) j).0) × ((shift_at (map shift_of es) j).0 <ℤ high)
climb_at low [] high j h l = absurd (omega arith)
climb_at low (e ∷ es) high zero h l = (h.0, h.1)
climb_at low (e ∷ es) high (suc j) h l =
    let there = climb_at e.0 es high j h.2 (omega arith) in
    (le_le _ _ _ h.0 there.0, there.1)

pub climb_rises : (low : ℤ) (es : List Entry) (high : ℤ) → Climb low es high → TimesDontFall (map shift_of es)
climb_rises low [] high h i j le l = absurd (omega arith)
climb_rises low (e ∷ es) high h zero zero le l = le_itself _
climb_rises low (e ∷ es) high h zero (suc j) le l = (climb_at e.0 es high j h.2 (omega arith)).0
climb_rises low (e ∷ es) high h (suc i) zero le l = absurd (omega arith)
climb_rises low (e ∷ es) high h (suc i) (suc j) le l = climb_rises e.0 es high h.2 i j (omega arith) (omega arith)

is_time : (x : ℤ) → least ≤ℤ x → x <ℤ past_greatest → IsSpanTime x
is_time x h k = (h, omega (arith, signed, k))

pub climb_bound : (low : ℤ) (es : List Entry) (high : ℤ) → least ≤ℤ low → high ≤ℤ past_greatest → Climb low es high → AreSpanTimes (map shift_of es)
climb_bound low [] high l g h k d b = absurd (omega arith)
climb_bound low (e ∷ es) high l g h zero d b = is_time e.0 (le_le _ _ _ l h.0) (climb_higher low (e ∷ es) high past_greatest g h).1
climb_bound low (e ∷ es) high l g h (suc k) d b = climb_bound e.0 es high (le_le _ _ _ l h.0) g h.2 k d (omega arith)

-- ---- the offsets stay
abbrev pub Offsets : List Entry → Type 0
Offsets [] = Unit {0}
Offsets (e ∷ es) = (is_offset (total e.1) ≡ true) × Offsets es

pub offsets_of : (es : List Entry) → list_all (λ (s : Shift). is_offset s.1) (map shift_of es) ≡ true → Offsets es
offsets_of [] h = tt
offsets_of (e ∷ es) h =
    let both = and_parts (is_offset (total e.1)) _ h in
    (both.0, offsets_of es both.1)

pub tests_of : (es : List Entry) → Offsets es → list_all (λ (s : Shift). is_offset s.1) (map shift_of es) ≡ true
tests_of [] h = refl
tests_of (e ∷ es) h = ap (λ b. b && list_all (λ (s : Shift). is_offset s.1) (map shift_of es)) h.0 ∙ tests_of es h.1

pub kept_offsets : (test : Entry → Bool) (es : List Entry) → Offsets es → Offsets (filter test es)
kept_offsets test [] h = tt
kept_offsets test (e ∷ es) h = elim (test e) as (λ b. Offsets (cond b (e ∷ filter test es) (filter test es))) [
  | true ↦ (h.0, kept_offsets test es h.1)
  | false ↦ kept_offsets test es h.1
]

joined_offsets : (es gs : List Entry) → Offsets es → Offsets gs → Offsets (es ++ gs)
joined_offsets [] gs h k = k
joined_offsets (e ∷ es) gs h k = (h.0, joined_offsets es gs h.1 k)

later_offsets : (es : List Entry) → Offsets es → Offsets (map entry_on es)
later_offsets [] h = tt
later_offsets (e ∷ es) h = (h.0, later_offsets es h.1)

pub again_offsets : (n : ℕ) (es : List Entry) → Offsets es → Offsets (again n es)
unfolding again
again_offsets zero es h = tt
again_offsets (suc n) es h =
    joined_offsets (map entry_on es) (again n (map entry_on es)) (later_offsets es h) (again_offsets n (map entry_on es) (later_offsets es h))

unrolled_offsets : (es : List Entry) → Offsets es → Offsets (unrolled_entries es)
unfolding unrolled_entries entries_before entries_from
unrolled_offsets es h =
    let kept = kept_offsets (λ (e : Entry). int_lt e.0 next_seam_second) es h in
    joined_offsets (entries_before next_seam_second es) (again 20 (entries_from seam_second (entries_before next_seam_second es))) kept
    (again_offsets 20 (entries_from seam_second (entries_before next_seam_second es))
    (kept_offsets (λ (e : Entry). int_le seam_second e.0) (entries_before next_seam_second es) kept))

-- ---- the parts
pub kept_cut : (es : List Entry) → Climb least es past_greatest → IsCutAt next_seam_second least es past_greatest
kept_cut es h = cut_at next_seam_second least es past_greatest (omega (arith, signed)) (omega (arith, signed)) h

pub cycle_cut : (es : List Entry) → Climb least es past_greatest → IsCutAt seam_second least (entries_before next_seam_second es) next_seam_second
cycle_cut es h =
    cut_at seam_second least (entries_before next_seam_second es) next_seam_second (omega (arith, signed)) (omega (arith, signed)) (kept_cut es h).before

pub unrolled_climbs : (es : List Entry) → Climb least es past_greatest → Climb least (unrolled_entries es) (pos 269243913600)
unfolding unrolled_entries
unrolled_climbs es h =
    climb_join least (entries_before next_seam_second es) next_seam_second (again 20 (entries_from seam_second (entries_before next_seam_second es)))
    (pos 269243913600) (kept_cut es h).before (climb_again 20 seam_second (entries_from seam_second (entries_before next_seam_second es)) (cycle_cut es h).after)

pub accepted : (set : FixedTimespanSet) → IsAccepted (schedule_of set) → IsAccepted (schedule_of (unrolled set))
accepted set ok =
    let climbs = unrolled_climbs set.others (set_climbs set ok) in
    let range = and_parts (is_offset (total set.first)) _ ok.range in
    record {
      range = ap (λ b. b && list_all (λ (s : Shift). is_offset s.1) (map shift_of (unrolled_entries set.others))) range.0
          ∙ tests_of (unrolled_entries set.others) (unrolled_offsets set.others (offsets_of set.others range.1));
      times = climb_rises least (unrolled_entries set.others) _ climbs;
      bound = climb_bound least (unrolled_entries set.others) _ (le_itself least) (omega (arith, signed)) climbs;
    }

-- the entries before the next seam, of which those before the first and those of a cycle
abbrev pub kept : List Entry → List Entry
kept es = entries_before next_seam_second es

abbrev pub old : List Entry → List Entry
old es = entries_before seam_second (kept es)

abbrev pub cycle : List Entry → List Entry
cycle es = entries_from seam_second (kept es)

-- ---- what is shown
module _ (first : FixedTimespan) (es : List Entry) (h : Climb least es past_greatest) where
  -- what is in force just before the cycle
  abbrev pub begins : FixedTimespan
  begins = span_by first (old es) (seam -ℤ pos 1)

  before_next : (u : ℤ) → u <ℤ next_seam → span_by first es u ≡ span_by first (kept es) u
  before_next u early =
      ap (λ l. span_by first l u) (kept_cut es h).joined
      ∙ span_by-more (kept es) (entries_from next_seam_second es) first u
      ∙ none_come u (span_by first (kept es) u) next_seam_second (entries_from next_seam_second es) past_greatest (kept_cut es h).after early

  by_cycle : (u : ℤ) → (seam -ℤ pos 1) ≤ℤ u → span_by first (kept es) u ≡ span_by begins (cycle es) u
  by_cycle u late =
      ap (λ l. span_by first l u) (cycle_cut es h).joined
      ∙ span_by-more (old es) (cycle es) first u
      ∙ ap (λ s. span_by s (cycle es) u)
      (all_come u (seam -ℤ pos 1) first least (old es) seam_second (cycle_cut es h).before (omega (arith, signed, late)) (omega (arith, signed)))

  abbrev pub repeats : Type 0
  repeats = span_by first es (instant_on (seam -ℤ pos 1)) ≡ span_by first es (seam -ℤ pos 1)

  pub shown_by_cycle : (u : ℤ) → (seam -ℤ pos 1) ≤ℤ u → u <ℤ next_seam → span_by first es u ≡ span_by begins (cycle es) u
  shown_by_cycle u late early = before_next u early ∙ by_cycle u late

  pub begins_is : span_by first es (seam -ℤ pos 1) ≡ begins
  begins_is =
      shown_by_cycle (seam -ℤ pos 1) (le_itself _) (omega (arith, signed))
      ∙ none_come (seam -ℤ pos 1) begins seam_second (cycle es) next_seam_second (cycle_cut es h).after (omega (arith, signed))

  pub leaves : repeats → Leaves begins next_seam_second (cycle es)
  leaves repeat u late =
      all_come u (next_seam -ℤ pos 1) begins seam_second (cycle es) next_seam_second (cycle_cut es h).after late (omega (arith, signed))
      ∙ sym (shown_by_cycle (next_seam -ℤ pos 1) (omega (arith, signed)) (omega (arith, signed)))
      ∙ repeat ∙ begins_is

  unrolled_is : (t : ℤ) → span_by first (unrolled_entries es) t ≡ span_by (span_by first (kept es) t) (again 20 (cycle es)) t
  unfolding unrolled_entries
  unrolled_is t = span_by-more (kept es) (again 20 (cycle es)) first t

  early_shows : (t : ℤ) → t <ℤ next_seam → span_by first (unrolled_entries es) t ≡ span_by first es t
  early_shows t early =
      unrolled_is t
      ∙ none_come t (span_by first (kept es) t) next_seam_second (again 20 (cycle es)) _ (climb_again 20 seam_second (cycle es) (cycle_cut es h).after) early
      ∙ sym (before_next t early)

  late_shows : repeats → (t : ℤ) (k : ℕ) → k < 20 → ArePast t (suc k) → span_by first (unrolled_entries es) t ≡ span_by first es (earlier (suc k) t)
  late_shows repeat t k few past =
      let from = past.begun (omega arith) in
      let before = past.not_over in
      unrolled_is t
      ∙ ap (λ s. span_by s (again 20 (cycle es)) t) (by_cycle t (omega (arith, signed)) ∙ leaves repeat t (omega (arith, signed)))
      ∙ again_shows 20 k begins seam_second (cycle es) t few (cycle_cut es h).after (leaves repeat)
      (record { from = omega (arith, signed); before = omega (arith, signed) })
      ∙ sym (by_cycle (earlier (suc k) t) (omega (arith, signed))) ∙ sym (before_next (earlier (suc k) t) (omega (arith, signed)))

  shows : repeats → (t : ℤ) (k : ℕ) → t <ℤ unrolled_end → next_seam ≤ℤ t → ArePast t k
      → span_by first (unrolled_entries es) t ≡ span_by first es (t -ℤ pos (k * 12622780800000000000))
  shows repeat t zero early late past = let before = past.not_over in absurd (omega (arith, signed))
  shows repeat t (suc k) early late past =
      let from = past.begun (omega arith) in
      late_shows repeat t k (omega (arith, signed)) past

span_shown : (set : FixedTimespanSet) (t : ℤ) → IsAccepted (schedule_of set) → IsRepeating set → t <ℤ unrolled_end
    → span_at (spans_of (unrolled set)) t ≡ ever_span set t
unfolding ever_span
span_shown set t ok repeat early =
    let climbs = set_climbs set ok in
    elim (cases_Bool (int_lt t next_seam)) [
      | inl is ↦
          early_shows set.first set.others climbs t (lt_from_pass t next_seam is) ∙ ap (span_at (spans_of set)) (sym (back_is t is))
      | inr is ↦
          shows set.first set.others climbs
          (repeat (seam -ℤ pos 1) (record { after = omega (arith, signed); before = omega (arith, signed) }))
          t (cycles_past t) early (lt_from_fail t next_seam is) (cycles_past-are t)
          ∙ ap (span_at (spans_of set)) (sym (back_by t (cycles_past t) (cycles_past-are t)))
    ]

pub shown : (set : FixedTimespanSet) (t : ℤ) → IsAccepted (schedule_of set) → IsRepeating set → t <ℤ unrolled_end
    → (span_at (spans_of (unrolled set)) t ≡ ever_span set t) × (total_at (schedule_of (unrolled set)) t ≡ ever_total set t)
shown set t ok repeat early =
    let span = span_shown set t ok repeat early in
    (span, total_is (unrolled set) t ∙ ap total span ∙ sym (ever_total-is set t))

-- ---- local times
abbrev pub ShowsLaw : Type 0
ShowsLaw = (set : FixedTimespanSet) (t : ℤ) → IsAccepted (schedule_of set) → IsRepeating set → t <ℤ unrolled_end
    → (span_at (spans_of (unrolled set)) t ≡ ever_span set t) × (total_at (schedule_of (unrolled set)) t ≡ ever_total set t)

near_end : (x o : ℤ) → IsOffset o → (x +ℤ pos 93600000000000) <ℤ unrolled_end → instant_at x o <ℤ unrolled_end
near_end x o h early = let after = near_after x o h in omega (arith, signed)

pub reads : ShowsLaw → (set : FixedTimespanSet) (x : ℤ) → IsAccepted (schedule_of set) → IsRepeating set
    → (x +ℤ pos 93600000000000) <ℤ unrolled_end
    → all_in_force (total_at (schedule_of (unrolled set))) x ≡ all_in_force (ever_total set) x
reads shows set x ok repeat early =
    same_in_force (total_at (schedule_of (unrolled set))) (ever_total set) x (λ o h. (shows set (instant_at x o) ok repeat (near_end x o h early)).1)
