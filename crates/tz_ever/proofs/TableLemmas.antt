-- Where an entry of a table lies in its set.
use Rattle.std.proofs.{Common.{◌≡◌, ℕ, zero, suc, ◌+◌, ◌-◌, ◌*◌, ◌/◌, ◌%◌, ◌<◌, ◌≤◌, true, false, cond, List, [], ◌∷◌, ◌++◌, length, map, get_or, ℤ, pos, neg_ℤ, ◌+ℤ◌, ◌-ℤ◌, ◌*ℤ◌, ◌≤ℤ◌, ◌<ℤ◌, int_le, int_lt, if◌then◌else◌, refl, sym, ap, ◌∙◌, subst, arith, inl, inr}, Math.ListN.{get_or-append}}
use Rattle.std.proofs.{Math.Nat.{div-add-mod', mul-le-mul_right}, lemmas.Bool.{cases_Bool, cases_lt}, lemmas.List.{get_or-append-add, get_or-map, length-append, length-map}}
use Rattle.basics.specs.{ComparisonLaws.{le_pass, lt_pass, lt_from_fail, lt_from_pass, lt_fail}, SignedLaws.{signed}}
use Rattle.zone_spans.specs.{Cycle.{entry_on}, Entries.{Entry}, declared.span.FixedTimespan.{FixedTimespan}}
use Rattle.tz_lookup.specs.{Compiles.{spans_of}, Sets.{IsAccepted, IsSpanTime, schedule_of, shift_of, shifts_of, span_in}, Spans.{Shift, shift_at}, declared.set.FixedTimespanSet.{FixedTimespanSet}}
use Rattle.tz_ever.specs.{InForce.{span_at, span_by}, Seam.{seam}, Recurrences.{comes_again}, ZoneShown.{recurrence_of, zone_set_of}, TablesShown.{table_of}, declared.recurrence.Recurrence.{Recurrence}, declared.recurrence.Recurrence.TheVariants.{Never, Later, Always}, declared.table.ZoneTable.{ZoneTable}, Places.{IsPlace}, Unrolled.{again, entries_before, entries_from, entry_moved, next_seam_second, repeated_entries, seam_second, told, unrolled_entries}}
use Rattle.tz_ever.proofs.{CutLemmas.{numbered, numbered_tail}, UnrolledLemmas.{Climb, above_all, before_step, none_come}, UnrolledShows.{cycle, cycle_cut, kept, kept_cut, least, old, past_greatest, set_climbs}}

pub shift_read : (es : List Entry) (k : ℕ) (d : Entry) → k < length es → shift_at (map shift_of es) k ≡ shift_of (get_or es k d)
shift_read es k d l = get_or-map shift_of es k d (pos 0, pos 0) l

-- ---- how many come before a second
pub count_is : (s low : ℤ) (es : List Entry) (high : ℤ) (k : ℕ) → Climb low es high → k ≤ length es
    → ((j : ℕ) → j < k → (shift_at (map shift_of es) j).0 <ℤ s) → (k < length es → s ≤ℤ (shift_at (map shift_of es) k).0)
    → k ≡ length (entries_before s es)
count_is s low [] high zero h within before reached = unfold entries_before in refl
count_is s low [] high (suc k) h within before reached = absurd (omega arith)
count_is s low (e ∷ es) high zero h within before reached =
    let here = reached (omega arith) in
    ap length (sym (above_all s s (e ∷ es) high (le_refl s) (here, h.1, h.2)).0)
  where
    le_refl : (a : ℤ) → a ≤ℤ a
    le_refl a = omega (arith, signed)
count_is s low (e ∷ es) high (suc k) h within before reached =
    ap suc (count_is s e.0 es high k h.2 (omega arith) (λ j l. before (suc j) (omega arith)) (λ l. reached (omega arith)))
    ∙ ap length (sym (before_step s e es ∙ ap (λ b. cond b (e ∷ entries_before s es) (entries_before s es)) (lt_pass _ _ (before 0 (omega arith)))))

-- a change so many cycles later
abbrev entry_later : ℕ → Entry → Entry
entry_later cycles = entry_moved (pos (cycles * 12622780800))

pub before_length : (s : ℤ) (es : List Entry) → length (entries_before s es) ≤ length es
before_length s [] = unfold entries_before in omega arith
before_length s (e ∷ es) =
    let rest = before_length s es in
    subst (λ l. length l ≤ suc (length es)) (sym (before_step s e es))
    (elim (int_lt e.0 s) as (λ b. length (cond b (e ∷ entries_before s es) (entries_before s es)) ≤ suc (length es)) [
      | true ↦ omega (arith, rest)
      | false ↦ omega (arith, rest)
    ])

-- those before a second are among those before a later one
pub before_later : (s t : ℤ) (es : List Entry) → s ≤ℤ t → entries_before s (entries_before t es) ≡ entries_before s es
before_later s t [] h = unfold entries_before in refl
before_later s t (e ∷ es) h =
    let rest = before_later s t es h in
    elim (cases_Bool (int_lt e.0 t)) [
      | inl is ↦
          ap (entries_before s) (before_step t e es ∙ ap (λ b. cond b (e ∷ entries_before t es) (entries_before t es)) is)
          ∙ before_step s e (entries_before t es) ∙ ap (λ l. cond (int_lt e.0 s) (e ∷ l) l) rest ∙ sym (before_step s e es)
      | inr is ↦
          let late : s ≤ℤ e.0 = past s t e.0 h (lt_from_fail _ _ is) in
          ap (entries_before s) (before_step t e es ∙ ap (λ b. cond b (e ∷ entries_before t es) (entries_before t es)) is)
          ∙ rest ∙ sym (before_step s e es ∙ ap (λ b. cond b (e ∷ entries_before s es) (entries_before s es)) (lt_fail _ _ late))
    ]
  where
    past : (a b c : ℤ) → a ≤ℤ b → b ≤ℤ c → a ≤ℤ c
    past a b c h k = omega (arith, signed, h, k)

-- ---- entries again
pub length-again : (n : ℕ) (es : List Entry) → length (again n es) ≡ n * length es
unfolding again
length-again zero es = omega arith
length-again (suc n) es =
    let next = map entry_on es in
    let same : length next ≡ length es = length-map es entry_on in
    let rest = length-again n next ∙ ap (λ k. n * k) same in
    length-append next (again n next) ∙ omega (arith, same, rest)

one_more : (x : ℤ) (k : ℕ) → (x +ℤ pos 12622780800) +ℤ pos (suc k * 12622780800) ≡ x +ℤ pos (suc (suc k) * 12622780800)
one_more x k = omega (arith, signed)

later_on : (k : ℕ) (e : Entry) → entry_later (suc k) (entry_on e) ≡ entry_later (suc (suc k)) e
later_on k e = λ i. (one_more e.0 k i, e.1)

again_at : (n q r count : ℕ) (es : List Entry) (d : Entry) → length es ≡ count → q < n → r < count
    → get_or (again n es) (q * count + r) d ≡ entry_later (suc q) (get_or es r d)
unfolding again
again_at zero q r count es d size few within = absurd (omega arith)
again_at (suc n) zero r count es d size few within =
    let next = map entry_on es in
    let same : length next ≡ length es = length-map es entry_on in
    let first : 0 * count + r ≡ r = omega arith in
    ap (λ i. get_or (next ++ again n next) i d) first ∙ get_or-append next (again n next) d r (omega arith)
    ∙ get_or-map entry_on es r d d (omega arith)
again_at (suc n) (suc q) r count es d size few within =
    let next = map entry_on es in
    let same : length next ≡ count = length-map es entry_on ∙ size in
    let past : suc q * count + r ≡ length next + (q * count + r) = omega arith in
    ap (λ i. get_or (next ++ again n next) i d) past ∙ get_or-append-add next (again n next) (q * count + r) d
    ∙ again_at n q r count next d same (omega arith) within
    ∙ ap (entry_later (suc q)) (get_or-map entry_on es r d d (omega arith))
    ∙ later_on q (get_or es r d)

below : (n q c : ℕ) → q * c < n * c → q < n
below n q c h = elim (cases_lt q n) [
  | inl less ↦ less
  | inr more ↦ let least = mul-le-mul_right {m = n} {n = q} c more in absurd (omega (arith, least, h))
]

-- ---- the parts of a set's entries
module _ (es : List Entry) (h : Climb least es past_greatest) where
  pub start_is : entries_before seam_second es ≡ (old es)
  start_is = sym (before_later seam_second next_seam_second es (omega (arith, signed)))

  pub kept_length : length (kept es) ≡ length (old es) + length (cycle es)
  kept_length = ap length (cycle_cut es h).joined ∙ length-append (old es) (cycle es)

  pub unrolled_length : length (unrolled_entries es) ≡ length (kept es) + 20 * length (cycle es)
  unfolding unrolled_entries
  unrolled_length = length-append (kept es) (again 20 (cycle es)) ∙ ap (λ n. length (kept es) + n) (length-again 20 (cycle es))

  kept_at : (i : ℕ) (d : Entry) → i < length (kept es) → get_or es i d ≡ get_or (kept es) i d
  kept_at i d l =
      ap (λ l. get_or l i d) (kept_cut es h).joined ∙ get_or-append (kept es) (entries_from next_seam_second es) d i l

  cycle_at : (r : ℕ) (d : Entry) → r < length (cycle es) → get_or es (length (old es) + r) d ≡ get_or (cycle es) r d
  cycle_at r d l =
      kept_at (length (old es) + r) d (omega (arith, kept_length))
      ∙ ap (λ l. get_or l (length (old es) + r) d) (cycle_cut es h).joined ∙ get_or-append-add (old es) (cycle es) r d

  as_it_is : (e : Entry) → e ≡ entry_moved (pos 0) e
  as_it_is e = λ i. (none e.0 i, e.1)
    where
      none : (x : ℤ) → x ≡ x +ℤ pos 0
      none x = omega (arith, signed)

  pub place_kept : (i : ℕ) → i < length (kept es) → IsPlace (unrolled_entries es) es i i (pos 0)
  unfolding unrolled_entries
  place_kept i l = record {
    within = omega (arith, l, before_length next_seam_second es);
    is = λ d. get_or-append (kept es) (again 20 (cycle es)) d i l ∙ sym (kept_at i d l) ∙ as_it_is (get_or es i d);
  }

  place_at : (i q r : ℕ) → i ≡ length (kept es) + (q * length (cycle es) + r) → q < 20 → r < length (cycle es)
      → IsPlace (unrolled_entries es) es i (length (old es) + r) (pos ((q + 1) * 12622780800))
  unfolding unrolled_entries
  place_at i q r place few l =
      let within : length (old es) + r < length es = omega (arith, kept_length, before_length next_seam_second es) in
      let next : suc q ≡ q + 1 = omega arith in
      record {
        within = within;
        is = λ d.
            ap (λ j. get_or (unrolled_entries es) j d) place ∙ get_or-append-add (kept es) (again 20 (cycle es)) (q * length (cycle es) + r) d
            ∙ again_at 20 q r (length (cycle es)) (cycle es) d refl few l
            ∙ ap (entry_later (suc q)) (sym (cycle_at r d l)) ∙ ap (λ k. entry_later k (get_or es (length (old es) + r) d)) next;
      }

  -- an entry of a later cycle, and how many cycles later
  pub record IsLaterPlace (i start end : ℕ) : Type 0 where
    pub place : IsPlace (unrolled_entries es) es i (start + (i - end) % (end - start)) (pos (((i - end) / (end - start) + 1) * 12622780800))
    pub few : (i - end) / (end - start) < 20

  pub place_later : (i start end : ℕ) → start ≡ length (entries_before seam_second es) → end ≡ length (kept es) → end ≤ i
      → i < length (unrolled_entries es) → IsLaterPlace i start end
  place_later i start end s e past l =
      let begun : start ≡ length (old es) = s ∙ ap length start_is in
      let count : end - start ≡ length (cycle es) = omega (arith, begun, e, kept_length) in
      let all = unrolled_length in
      let some : 0 < length (cycle es) = omega (arith, all, l, past, e) in
      let q = (i - end) / length (cycle es) in
      let r = (i - end) % length (cycle es) in
      let parts : q * length (cycle es) + r ≡ i - end = div-add-mod' (i - end) (length (cycle es)) in
      let rest : r < length (cycle es) = omega (arith, some) in
      let few : q < 20 = below 20 q (length (cycle es)) (omega (arith, all, parts, l, past, e)) in
      record {
        place = subst (λ n. IsPlace (unrolled_entries es) es i (start + (i - end) % n) (pos (((i - end) / n + 1) * 12622780800))) (sym count)
            (subst (λ n. IsPlace (unrolled_entries es) es i (n + r) (pos ((q + 1) * 12622780800))) (sym begun)
            (place_at i q r (omega (arith, parts, past, e)) few rest));
        few = subst (λ n. (i - end) / n < 20) (sym count) few;
      }

  -- ---- where the cycle comes again always
  pub repeated_length : length (repeated_entries es) ≡ 52 * length (cycle es)
  unfolding repeated_entries
  repeated_length =
      length-again 52 (map (entry_moved (neg_ℤ (pos 403928985600))) (cycle es))
      ∙ ap (λ n. 52 * n) (length-map (cycle es) (entry_moved (neg_ℤ (pos 403928985600))))

  cycles_back : (x : ℤ) (q : ℕ) → (x +ℤ neg_ℤ (pos 403928985600)) +ℤ pos (suc q * 12622780800) ≡ x +ℤ (pos (q * 12622780800) -ℤ pos 391306204800)
  cycles_back x q = omega (arith, signed)

  repeated_at : (i q r : ℕ) → i ≡ q * length (cycle es) + r → q < 52 → r < length (cycle es)
      → IsPlace (repeated_entries es) es i (length (old es) + r) (pos (q * 12622780800) -ℤ pos 391306204800)
  unfolding repeated_entries
  repeated_at i q r place few l =
      let moved = entry_moved (neg_ℤ (pos 403928985600)) in
      record {
        within = omega (arith, kept_length, before_length next_seam_second es, l);
        is = λ d.
            ap (λ j. get_or (again 52 (map moved (cycle es))) j d) place
            ∙ again_at 52 q r (length (cycle es)) (map moved (cycle es)) d (length-map (cycle es) moved) few l
            ∙ ap (entry_later (suc q)) (get_or-map moved (cycle es) r d d l ∙ ap moved (sym (cycle_at r d l)))
            ∙ (λ j. (cycles_back (get_or es (length (old es) + r) d).0 q j, (get_or es (length (old es) + r) d).1));
      }

  pub record IsRepeatedPlace (i start end : ℕ) : Type 0 where
    pub place : IsPlace (repeated_entries es) es i (start + i % (end - start)) (pos (i / (end - start) * 12622780800) -ℤ pos 391306204800)
    pub few : i / (end - start) < 52

  pub repeated_place : (i start end : ℕ) → start ≡ length (entries_before seam_second es) → end ≡ length (kept es)
      → i < length (repeated_entries es) → IsRepeatedPlace i start end
  repeated_place i start end s e l =
      let begun : start ≡ length (old es) = s ∙ ap length start_is in
      let count : end - start ≡ length (cycle es) = omega (arith, begun, e, kept_length) in
      let all = repeated_length in
      let some : 0 < length (cycle es) = omega (arith, all, l) in
      let q = i / length (cycle es) in
      let r = i % length (cycle es) in
      let parts : q * length (cycle es) + r ≡ i = div-add-mod' i (length (cycle es)) in
      let rest : r < length (cycle es) = omega (arith, some) in
      let few : q < 52 = below 52 q (length (cycle es)) (omega (arith, all, parts, l)) in
      record {
        place = subst (λ n. IsPlace (repeated_entries es) es i (start + i % n) (pos (i / n * 12622780800) -ℤ pos 391306204800)) (sym count)
            (subst (λ n. IsPlace (repeated_entries es) es i (n + r) (pos (q * 12622780800) -ℤ pos 391306204800)) (sym begun)
            (repeated_at i q r (sym parts) few rest));
        few = subst (λ n. i / n < 52) (sym count) few;
      }

  pub some_to_repeat : (i start end : ℕ) → start ≡ length (entries_before seam_second es) → end ≡ length (kept es)
      → i < length (repeated_entries es) → start < end
  some_to_repeat i start end s e l =
      let begun : start ≡ length (old es) = s ∙ ap length start_is in
      omega (arith, repeated_length, kept_length, begun, e, l)

  pub some_in_cycle : (i start end : ℕ) → start ≡ length (entries_before seam_second es) → end ≡ length (kept es) → end ≤ i
      → i < length (unrolled_entries es) → start < end
  some_in_cycle i start end s e past l =
      let begun : start ≡ length (old es) = s ∙ ap length start_is in
      omega (arith, unrolled_length, kept_length, begun, e, past, l)

  pub counts_rise : length (entries_before seam_second es) ≤ length (kept es)
  counts_rise = let begun = ap length start_is in omega (arith, kept_length, begun)

-- ---- of a table
pub starts_first : (table : ZoneTable) → comes_again (recurrence_of table.set.now) ≡ true → table.start ≤ table.end
starts_first table again =
    let set = zone_set_of table.set.now in
    omega (arith, counts_rise set.others (set_climbs set table.set.now.accepted), table.starts again, table.ends again)

pub starts_some : (table : ZoneTable) (index : ℕ) → recurrence_of table.set.now ≡ Later → table.end ≤ index
    → index < length (unrolled_entries (zone_set_of table.set.now).others) → table.start < table.end
starts_some table index later past l =
    let set = zone_set_of table.set.now in
    some_in_cycle set.others (set_climbs set table.set.now.accepted) index table.start table.end (table.starts (ap comes_again later))
    (table.ends (ap comes_again later)) past l

pub repeats_some : (table : ZoneTable) (index : ℕ) → recurrence_of table.set.now ≡ Always
    → index < length (repeated_entries (zone_set_of table.set.now).others) → table.start < table.end
repeats_some table index always l =
    let set = zone_set_of table.set.now in
    some_to_repeat set.others (set_climbs set table.set.now.accepted) index table.start table.end (table.starts (ap comes_again always))
    (table.ends (ap comes_again always)) l

pub later_of : (table : ZoneTable) (index : ℕ) → recurrence_of table.set.now ≡ Later → table.end ≤ index
    → index < length (unrolled_entries (zone_set_of table.set.now).others)
    → IsLaterPlace (zone_set_of table.set.now).others (set_climbs (zone_set_of table.set.now) table.set.now.accepted) index table.start table.end
later_of table index later past l =
    let set = zone_set_of table.set.now in
    place_later set.others (set_climbs set table.set.now.accepted) index table.start table.end (table.starts (ap comes_again later))
    (table.ends (ap comes_again later)) past l

pub repeated_of : (table : ZoneTable) (index : ℕ) → recurrence_of table.set.now ≡ Always
    → index < length (repeated_entries (zone_set_of table.set.now).others)
    → IsRepeatedPlace (zone_set_of table.set.now).others (set_climbs (zone_set_of table.set.now) table.set.now.accepted) index table.start table.end
repeated_of table index always l =
    let set = zone_set_of table.set.now in
    repeated_place set.others (set_climbs set table.set.now.accepted) index table.start table.end (table.starts (ap comes_again always))
    (table.ends (ap comes_again always)) l

-- how many entries are told, and how few
pub record AreCounted (table : ZoneTable) (count : ℕ) : Type 0 where
  pub is : count ≡ length (table_of table).others
  pub bound : count < 18446744073709551615

told_as : (table : ZoneTable) (recurrence : Recurrence) → recurrence_of table.set.now ≡ recurrence
    → length (told recurrence (zone_set_of table.set.now)).others ≡ length (table_of table).others
told_as table recurrence is = ap (λ r. length (told r (zone_set_of table.set.now)).others) (sym is)

pub few_kept : (table : ZoneTable) → comes_again (recurrence_of table.set.now) ≡ true → table.end < 288230376151711744
few_kept table again = omega (arith, before_length next_seam_second (zone_set_of table.set.now).others, table.ends again, table.set.now.few)

pub counted_later : (table : ZoneTable) → recurrence_of table.set.now ≡ Later → AreCounted table (table.end + 20 * (table.end - table.start))
counted_later table later =
    let set = zone_set_of table.set.now in
    let h = set_climbs set table.set.now.accepted in
    let starts = table.starts (ap comes_again later) in
    let ends = table.ends (ap comes_again later) in
    let size : table.end + 20 * (table.end - table.start) ≡ length (unrolled_entries set.others) =
    omega (arith, starts, ends, unrolled_length set.others h, kept_length set.others h, ap length (start_is set.others h)) in
    record {
      is = size ∙ told_as table Later later;
      bound = omega (arith, few_kept table (ap comes_again later));
    }

pub counted_always : (table : ZoneTable) → recurrence_of table.set.now ≡ Always → AreCounted table (52 * (table.end - table.start))
counted_always table always =
    let set = zone_set_of table.set.now in
    let h = set_climbs set table.set.now.accepted in
    let starts = table.starts (ap comes_again always) in
    let ends = table.ends (ap comes_again always) in
    let size : 52 * (table.end - table.start) ≡ length (repeated_entries set.others) =
    omega (arith, starts, ends, repeated_length set.others h, kept_length set.others h, ap length (start_is set.others h)) in
    record {
      is = size ∙ told_as table Always always;
      bound = omega (arith, few_kept table (ap comes_again always));
    }

pub counted_never : (table : ZoneTable) (count : ℕ) → recurrence_of table.set.now ≡ Never → count ≡ length (zone_set_of table.set.now).others
    → AreCounted table count
counted_never table count never size = record {
  is = size ∙ told_as table Never never;
  bound = omega (arith, size, table.set.now.few);
}

-- ---- what is read at a place
pub place_by : (listed entries : List Entry) (index entry : ℕ) (seconds other : ℤ) → other ≡ seconds → IsPlace listed entries index entry seconds
    → IsPlace listed entries index entry other
place_by listed entries index entry seconds other is place = subst (IsPlace listed entries index entry) (sym is) place

-- in the set of a table, by its recurrence
pub place_in : (table : ZoneTable) (recurrence : Recurrence) (index entry : ℕ) (seconds : ℤ) → recurrence_of table.set.now ≡ recurrence
    → IsPlace (told recurrence (zone_set_of table.set.now)).others (zone_set_of table.set.now).others index entry seconds
    → IsPlace (table_of table).others (zone_set_of table.set.now).others index entry seconds
place_in table recurrence index entry seconds is place =
    subst (λ r. IsPlace (told r (zone_set_of table.set.now)).others (zone_set_of table.set.now).others index entry seconds) (sym is) place

pub place_itself : (set : FixedTimespanSet) (index : ℕ) → index < length set.others → IsPlace set.others set.others index index (pos 0)
place_itself set index l = record {
  within = l;
  is = λ d i. (none (get_or set.others index d).0 i, (get_or set.others index d).1);
}
  where
    none : (x : ℤ) → x ≡ x +ℤ pos 0
    none x = omega (arith, signed)

-- what is in force before the first entry
pub first_is : (table : ZoneTable) (recurrence : Recurrence) → recurrence_of table.set.now ≡ recurrence
    → (told recurrence (zone_set_of table.set.now)).first ≡ (table_of table).first
first_is table recurrence is = ap (λ r. (told r (zone_set_of table.set.now)).first) (sym is)

-- the number of the span in force just before a second is how many entries come before it
span_before : (other first : FixedTimespan) (s low : ℤ) (es : List Entry) (high : ℤ) → Climb low es high
    → span_by first es (s *ℤ pos 1000000000 -ℤ pos 1) ≡ numbered other first es (length (entries_before s es))
unfolding span_by
span_before other first s low [] high h = unfold entries_before in refl
span_before other first s low (e ∷ es) high h = elim (cases_Bool (int_lt e.0 s)) [
  | inl is ↦
      ap (λ b. span_by (if b then e.1 else first) es (s *ℤ pos 1000000000 -ℤ pos 1)) (has_come_before e.0 (lt_from_pass _ _ is))
      ∙ span_before other e.1 s e.0 es high h.2
      ∙ numbered_tail other first e es (length (entries_before s es))
      ∙ ap (λ l. numbered other first (e ∷ es) (length l))
      (sym (before_step s e es ∙ ap (λ b. cond b (e ∷ entries_before s es) (entries_before s es)) is))
  | inr is ↦
      none_come (s *ℤ pos 1000000000 -ℤ pos 1) first s (e ∷ es) high (lt_from_fail _ _ is, h.1, h.2) (just_before s)
      ∙ ap (λ l. numbered other first (e ∷ es) (length l))
      (sym (above_all s e.0 (e ∷ es) high (lt_from_fail _ _ is) (le_refl e.0, h.1, h.2)).0)
]
  where
    le_refl : (a : ℤ) → a ≤ℤ a
    le_refl a = omega (arith, signed)

    just_before : (s : ℤ) → (s *ℤ pos 1000000000 -ℤ pos 1) <ℤ (s *ℤ pos 1000000000)
    just_before s = omega (arith, signed)

    has_come_before : (x : ℤ) → x <ℤ s → int_le (x *ℤ pos 1000000000) (s *ℤ pos 1000000000 -ℤ pos 1) ≡ true
    has_come_before x l = le_pass (x *ℤ pos 1000000000) (s *ℤ pos 1000000000 -ℤ pos 1) (omega (arith, signed, l))

pub span_at_start : (set : FixedTimespanSet) → IsAccepted (schedule_of set)
    → span_in set (length (entries_before seam_second set.others)) ≡ span_at (spans_of set) (seam -ℤ pos 1)
span_at_start set ok =
    sym (span_before set.first set.first seam_second least set.others past_greatest (set_climbs set ok) ∙ same set (length (entries_before seam_second set.others)))
  where
    same : (set : FixedTimespanSet) (k : ℕ) → numbered set.first set.first set.others k ≡ span_in set k
    same set zero = refl
    same set (suc k) = refl

pub time_of_place : (listed set : FixedTimespanSet) (index entry : ℕ) (seconds : ℤ) → IsPlace listed.others set.others index entry seconds
    → index < length listed.others → (shift_at (shifts_of set) entry).0 +ℤ seconds ≡ (shift_at (shifts_of listed) index).0
time_of_place listed set index entry seconds place l =
    let d : Entry = (pos 0, set.first) in
    ap (λ (s : Shift). s.0 +ℤ seconds) (shift_read set.others entry d place.within)
    ∙ sym (ap (λ (s : Shift). s.0) (shift_read listed.others index d l) ∙ ap (λ (e : Entry). e.0) (place.is d))

span_read : (first other : FixedTimespan) (es : List Entry) (i : ℕ) → i < length es
    → (get_or es i (pos 0, first)).1 ≡ (get_or es i (pos 0, other)).1
span_read first other [] i l = absurd (omega arith)
span_read first other (e ∷ es) zero l = refl
span_read first other (e ∷ es) (suc i) l = span_read first other es i (omega arith)

pub span_of_place : (listed set : FixedTimespanSet) (index entry : ℕ) (seconds : ℤ) → (index ≡ 0 → ⊥) → index ≤ length listed.others
    → IsPlace listed.others set.others (index - 1) entry seconds → span_in set (entry + 1) ≡ span_in listed index
span_of_place listed set zero entry seconds some l place = absurd (some refl)
span_of_place listed set (suc k) entry seconds some l place =
    let next : entry + 1 ≡ suc entry = omega arith in
    let this : suc k - 1 ≡ k = omega arith in
    let d : Entry = (pos 0, set.first) in
    ap (span_in set) next ∙ sym (ap (λ i. (get_or listed.others i d).1) (sym this) ∙ ap (λ (e : Entry). e.1) (place.is d))
    ∙ span_read set.first listed.first listed.others k (omega (arith, l))

pub time_bound : (set : FixedTimespanSet) (k : ℕ) → IsAccepted (schedule_of set) → k < length set.others → IsSpanTime (shift_at (shifts_of set) k).0
time_bound set k ok l = ok.bound k (pos 0, pos 0) (subst (λ n. k < n) (sym (length-map set.others shift_of)) l)
