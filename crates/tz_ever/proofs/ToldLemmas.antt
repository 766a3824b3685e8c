-- The entries that are told of a zone: they can be looked up, and show what the zone shows.
use Rattle.std.proofs.Common.{◌≡◌, ℕ, suc, ◌*◌, ◌<◌, true, ◌&&◌, if◌then◌else◌, List, [], ◌∷◌, map, ℤ, pos, neg_ℤ, ◌+ℤ◌, ◌-ℤ◌, ◌*ℤ◌, ◌≤ℤ◌, ◌<ℤ◌, int_le, refl, sym, ap, ◌∙◌, subst, arith, zero, false}
use Rattle.std.proofs.lemmas.Int.{ints}
use Rattle.std.specs.List.{list_all}
use Rattle.basics.specs.{SignedLaws.{signed}}
use Rattle.civil_base.specs.Ranges.{is_offset}
use Rattle.zone_spans.specs.{Cycle.{seconds_on}, Entries.{Entry, total}, Schedules.{total_at}, declared.span.FixedTimespan.{FixedTimespan}}
use Rattle.tz_lookup.specs.{Compiles.{spans_of}, Sets.{IsAccepted, schedule_of, shift_of}, Spans.{Shift}, declared.set.FixedTimespanSet.{FixedTimespanSet}}
use Rattle.tz_ever.specs.{Ever.{ever_span}, InForce.{has_come, span_at, span_by}, Recurrences.{RepeatsAs, turned, zone_span, zone_total}, Seam.{cycles_past, seam}, SeamLaws.{ArePast, back_by, cycles_past-are}, declared.recurrence.Recurrence.{Recurrence}, declared.recurrence.Recurrence.TheVariants.{Never, Later, Always}}
use Rattle.tz_ever.specs.Unrolled.{IsTold, entries_before, entries_from, entry_moved, next_seam_second, repeated_entries, seam_second, told}
use Rattle.tz_ever.proofs.{NearLemmas.{total_is, zone_total-is}, TurnLemmas.{always_is}, UnrolledLemmas.{Climb, Leaves, again_shows, climb_again, earlier}, UnrolledShows.{Offsets, ShowsLaw, again_offsets, begins, begins_is, climb_bound, climb_rises, cycle, cycle_cut, kept_offsets, least, leaves, offsets_of, past_greatest, repeats, set_climbs, shown_by_cycle, tests_of}}
use Rattle.std.proofs.lemmas.Bool.{and_parts}

-- ---- entries moved
le_moved : (m a b : ℤ) → a ≤ℤ b → (a +ℤ m) ≤ℤ (b +ℤ m)
le_moved m a b h = omega (arith, signed, h)

lt_moved : (m a b : ℤ) → a <ℤ b → (a +ℤ m) <ℤ (b +ℤ m)
lt_moved m a b h = omega (arith, signed, h)

climb_moved : (m low : ℤ) (es : List Entry) (high : ℤ) → Climb low es high → Climb (low +ℤ m) (map (entry_moved m) es) (high +ℤ m)
climb_moved m low [] high h = le_moved m low high h
climb_moved m low (e ∷ es) high h = (le_moved m _ _ h.0, lt_moved m _ _ h.1, climb_moved m e.0 es high h.2)

moved_offsets : (m : ℤ) (es : List Entry) → Offsets es → Offsets (map (entry_moved m) es)
moved_offsets m [] h = tt
moved_offsets m (e ∷ es) h = (h.0, moved_offsets m es h.1)

shown_offset : (first : FixedTimespan) (es : List Entry) (t : ℤ) → is_offset (total first) ≡ true → Offsets es
    → is_offset (total (span_by first es t)) ≡ true
unfolding span_by
shown_offset first [] t h all = h
shown_offset first (e ∷ es) t h all =
    elim (has_come t e) as (λ b. is_offset (total (span_by (if b then e.1 else first) es t)) ≡ true) [
      | true ↦ shown_offset e.1 es t all.0 all.1
      | false ↦ shown_offset first es t h all.1
    ]

nanos_moved : (m x : ℤ) → (x +ℤ m) *ℤ pos 1000000000 ≡ x *ℤ pos 1000000000 +ℤ m *ℤ pos 1000000000
nanos_moved m x = omega (arith, signed)

order_moved : (n a b : ℤ) → int_le (a +ℤ n) (b +ℤ n) ≡ int_le a b
order_moved n a b = grind (arith, ints)

shown_moved : (m : ℤ) (es : List Entry) (first : FixedTimespan) (t : ℤ)
    → span_by first (map (entry_moved m) es) (t +ℤ m *ℤ pos 1000000000) ≡ span_by first es t
unfolding span_by
shown_moved m [] first t = refl
shown_moved m (e ∷ es) first t =
    ap (λ b. span_by (if b then e.1 else first) (map (entry_moved m) es) (t +ℤ m *ℤ pos 1000000000))
    (ap (λ z. int_le z (t +ℤ m *ℤ pos 1000000000)) (nanos_moved m e.0) ∙ order_moved (m *ℤ pos 1000000000) (e.0 *ℤ pos 1000000000) t)
    ∙ shown_moved m es (if has_come t e then e.1 else first) t

-- ---- the cycle, 32 cycles before its own
abbrev back : ℤ
back = neg_ℤ (pos 403928985600)

abbrev low : ℤ
low = neg_ℤ (pos 399763468800)

abbrev early_cycle : List Entry → List Entry
early_cycle es = map (entry_moved back) (cycle es)

seam_back : seam_second +ℤ back ≡ low
seam_back = refl

next_back : next_seam_second +ℤ back ≡ seconds_on low
next_back = refl

early_climbs : (es : List Entry) → Climb least es past_greatest → Climb low (early_cycle es) (seconds_on low)
early_climbs es h =
    subst (λ z. Climb z (early_cycle es) (seconds_on low)) seam_back
    (subst (Climb (seam_second +ℤ back) (early_cycle es)) next_back (climb_moved back seam_second (cycle es) next_seam_second (cycle_cut es h).after))

repeated_climbs : (es : List Entry) → Climb least es past_greatest → Climb (seconds_on low) (repeated_entries es) (pos 269243913600)
unfolding repeated_entries
repeated_climbs es h = climb_again 52 low (early_cycle es) (early_climbs es h)

cycle_offsets : (es : List Entry) → Offsets es → Offsets (repeated_entries es)
unfolding repeated_entries entries_before entries_from
cycle_offsets es h =
    again_offsets 52 (early_cycle es) (moved_offsets back (cycle es) (kept_offsets _ _ (kept_offsets _ es h)))

accepted_always : (set : FixedTimespanSet) → IsAccepted (schedule_of set) → IsAccepted (schedule_of (told Always set))
accepted_always set ok =
    let climbs = repeated_climbs set.others (set_climbs set ok) in
    let range = and_parts (is_offset (total set.first)) _ ok.range in
    let all = offsets_of set.others range.1 in
    record {
      range = ap (λ b. b && list_all (λ (s : Shift). is_offset s.1) (map shift_of (repeated_entries set.others)))
          (shown_offset set.first set.others (seam -ℤ pos 1) range.0 all)
          ∙ tests_of (repeated_entries set.others) (cycle_offsets set.others all);
      times = climb_rises (seconds_on low) (repeated_entries set.others) _ climbs;
      bound = climb_bound (seconds_on low) (repeated_entries set.others) _ (omega (arith, signed)) (omega (arith, signed)) climbs;
    }

pub accepted : ((set : FixedTimespanSet) → IsAccepted (schedule_of set) → IsAccepted (schedule_of (told Later set)))
    → (recurrence : Recurrence) (set : FixedTimespanSet) → IsAccepted (schedule_of set) → IsAccepted (schedule_of (told recurrence set))
accepted law Never set ok = ok
accepted law Later set ok = law set ok
accepted law Always set ok = accepted_always set ok

-- ---- what is shown
module _ (first : FixedTimespan) (es : List Entry) (h : Climb least es past_greatest) (repeat : repeats first es h) where
  abbrev start : FixedTimespan
  start = begins first es h

  -- what the early cycle shows is what the cycle shows 32 cycles later
  early_shows : (u v : ℤ) → u ≡ v +ℤ back *ℤ pos 1000000000 → span_by start (early_cycle es) u ≡ span_by start (cycle es) v
  early_shows u v is = ap (span_by start (early_cycle es)) is ∙ shown_moved back (cycle es) start v

  there : (u : ℤ) → u ≡ (u +ℤ pos 403928985600000000000) +ℤ back *ℤ pos 1000000000
  there u = omega (arith, signed)

  early_leaves : Leaves start (seconds_on low) (early_cycle es)
  early_leaves u late =
      early_shows u (u +ℤ pos 403928985600000000000) (there u) ∙ leaves first es h repeat (u +ℤ pos 403928985600000000000) (omega (arith, signed, late))

  in_cycle : (t : ℤ) (k : ℕ) → (seam -ℤ pos 391306204800000000000) ≤ℤ t → ArePast (t +ℤ pos 391306204800000000000) k
      → t ≡ ((t +ℤ pos 391306204800000000000) -ℤ pos (k * 12622780800000000000)) +ℤ pos (k * 12622780800000000000) -ℤ pos 391306204800000000000
  in_cycle t k from past = omega (arith, signed)

  always_shows : (t : ℤ) (k : ℕ) → k < 52 → (seam -ℤ pos 391306204800000000000) ≤ℤ t → ArePast (t +ℤ pos 391306204800000000000) k
      → span_by start (repeated_entries es) t ≡ span_by first es ((t +ℤ pos 391306204800000000000) -ℤ pos (k * 12622780800000000000))
  unfolding repeated_entries
  always_shows t k few from past =
      let v = (t +ℤ pos 391306204800000000000) -ℤ pos (k * 12622780800000000000) in
      let begun : (seam +ℤ pos (k * 12622780800000000000)) ≤ℤ (t +ℤ pos 391306204800000000000) = begun_of t k from past in
      let not_over = past.not_over in
      again_shows 52 k start low (early_cycle es) t few (early_climbs es h) early_leaves
      (record { from = omega (arith, signed, begun); before = omega (arith, signed, not_over) })
      ∙ early_shows (earlier (suc k) t) v (omega (arith, signed))
      ∙ sym (shown_by_cycle first es h v (omega (arith, signed, begun)) (omega (arith, signed, not_over)))
    where
      begun_of : (t : ℤ) (k : ℕ) → (seam -ℤ pos 391306204800000000000) ≤ℤ t → ArePast (t +ℤ pos 391306204800000000000) k
          → (seam +ℤ pos (k * 12622780800000000000)) ≤ℤ (t +ℤ pos 391306204800000000000)
      begun_of t zero from past = omega (arith, signed, from)
      begun_of t (suc k) from past = past.begun (omega arith)

few_cycles : (t : ℤ) (k : ℕ) → t <ℤ pos 269243913600000000000 → ArePast (t +ℤ pos 391306204800000000000) k → k < 52
few_cycles t zero early past = omega arith
few_cycles t (suc k) early past = let begun = past.begun (omega arith) in omega (arith, signed, begun, early)

told_always : (set : FixedTimespanSet) (t : ℤ) → IsAccepted (schedule_of set) → RepeatsAs Always set → IsTold Always t
    → span_at (spans_of (told Always set)) t ≡ zone_span Always set t
unfolding zone_span
told_always set t ok repeated is =
    let climbs = set_climbs set ok in
    let x = t +ℤ pos 391306204800000000000 in
    let k = cycles_past x in
    let past = cycles_past-are x in
    ap (λ s. span_by s (repeated_entries set.others) t) (begins_is set.first set.others climbs)
    ∙ always_shows set.first set.others climbs
    (repeated refl (seam -ℤ pos 1) (record { after = omega (arith, signed); before = omega (arith, signed) }))
    t k (few_cycles t k is.1 past) is.0 past
    ∙ ap (span_at (spans_of set)) (sym (always_is t ∙ back_by x k past))

span_told : ShowsLaw → (recurrence : Recurrence) (set : FixedTimespanSet) (t : ℤ) → IsAccepted (schedule_of set) → RepeatsAs recurrence set
    → IsTold recurrence t → span_at (spans_of (told recurrence set)) t ≡ zone_span recurrence set t
unfolding zone_span turned ever_span
span_told law Never set t ok repeated is = refl
span_told law Later set t ok repeated is = (law set t ok (repeated refl) is).0
span_told law Always set t ok repeated is = told_always set t ok repeated is

pub shown : ShowsLaw → (recurrence : Recurrence) (set : FixedTimespanSet) (t : ℤ) → IsAccepted (schedule_of set) → RepeatsAs recurrence set
    → IsTold recurrence t
    → (span_at (spans_of (told recurrence set)) t ≡ zone_span recurrence set t)
    × (total_at (schedule_of (told recurrence set)) t ≡ zone_total recurrence set t)
shown law recurrence set t ok repeated is =
    let span = span_told law recurrence set t ok repeated is in
    (span, total_is (told recurrence set) t ∙ ap total span ∙ sym (zone_total-is recurrence set t))
