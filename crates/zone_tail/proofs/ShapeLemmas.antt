-- Entries between two seconds, by how many lie before each.
use Rattle.std.proofs.Common.{◌≡◌, ℕ, zero, suc, ◌+◌, ◌-◌, ◌<◌, ◌≤◌, Bool, true, false, cond, List, [], ◌∷◌, length, length-take-le, map, take, drop, slice_index_or, ℤ, pos, ◌≤ℤ◌, ◌<ℤ◌, int_le, int_lt, refl, sym, ap, ◌∙◌, subst, ⊎_elim, arith}
use Rattle.std.proofs.lemmas.{Int.{ints}, Bool.{cases_lt}, Bool.Decides.{nat_tests}, List.{length-drop}}
use Rattle.std.specs.{Prelude.{◌&&◌, ◌||◌, filter, nat_lt}, Cmp.{both_ways}, List.{list_any}}
use Rattle.basics.specs.ComparisonLaws.{le_fail, le_pass}
use Rattle.zone_spans.specs.{Entries.{Entry}, declared.span.FixedTimespan.{FixedTimespan}}
use Rattle.tz_lookup.specs.{Sets.{shift_of, shifts_of, span_in}, Spans.{IsCut, shift_at}, declared.set.FixedTimespanSet.{FixedTimespanSet}}
use Rattle.zone_tail.{specs.LastYear.{entries_between, last_span, span_from}, specs.Shapes.{entry_in, IsShape}, specs.Totals.{IsCount}, specs.declared.last_year.Shape.TheVariants.{Steady, Pair, Other}, proofs.SpanLemmas.{length-shifts}}

inside : (l h t : ℤ) → l ≤ℤ t → t <ℤ h → int_le l t && int_lt t h ≡ true
inside l h t k m = grind (arith, ints)

before : (l h t : ℤ) → t <ℤ l → int_le l t && int_lt t h ≡ false
before l h t k = grind (arith, ints)

beyond : (l h t : ℤ) → h ≤ℤ t → int_le l t && int_lt t h ≡ false
beyond l h t k = grind (arith, ints)

abbrev shifts : List Entry → List (ℤ × ℤ)
shifts entries = map shift_of entries

pub shift_is : (d : Entry) (entries : List Entry) (i : ℕ) → i < length entries → shift_at (map shift_of entries) i ≡ shift_of (slice_index_or entries i d)
shift_is d [] i l = absurd (omega arith)
shift_is d (e ∷ es) zero l = refl
shift_is d (e ∷ es) (suc i) l = shift_is d es i (omega arith)

tail_before : (e : Entry) (es : List Entry) (s : ℤ) (k : ℕ) → IsCount (shifts (e ∷ es)) s (suc k) → IsCount (shifts es) s k
tail_before e es s k h = record {
  within = omega (arith, h.within);
  before = λ j l. h.before (suc j) (omega arith);
  after = λ j l m. h.after (suc j) (omega arith) (omega (arith, m));
}

tail_after : (e : Entry) (es : List Entry) (s : ℤ) → IsCount (shifts (e ∷ es)) s 0 → IsCount (shifts es) s 0
tail_after e es s h = record {
  within = omega arith;
  before = λ j l. absurd (omega arith);
  after = λ j l m. h.after (suc j) (omega arith) (omega (arith, m));
}

module _ (low high : ℤ) where
  goes : (e : Entry) (es : List Entry) (b : Bool) → int_le low e.0 && int_lt e.0 high ≡ b
      → entries_between (e ∷ es) low high ≡ cond b (e ∷ entries_between es low high) (entries_between es low high)
  goes e es b is = ap (λ t. cond t (e ∷ entries_between es low high) (entries_between es low high)) is

  -- the entries between are the n from i on
  pub between_counts : (entries : List Entry) (i n k : ℕ) → k ≡ i + n → IsCount (shifts entries) low i → IsCount (shifts entries) high k
      → entries_between entries low high ≡ take n (drop i entries)
  between_counts [] zero zero k is h m = refl
  between_counts [] zero (suc n) k is h m = absurd (omega (arith, m.within))
  between_counts [] (suc i) n k is h m = absurd (omega (arith, h.within))
  between_counts (e ∷ es) zero zero k is h m =
      let none : k ≡ 0 = omega arith in
      let from = subst (IsCount (shifts (e ∷ es)) high) none m in
      goes e es false (beyond low high e.0 (from.after 0 (omega arith) (omega arith)))
      ∙ between_counts es zero zero 0 (omega arith) (tail_after e es low h) (tail_after e es high from)
  between_counts (e ∷ es) zero (suc n) k is h m =
      let more : k ≡ suc n = omega arith in
      let from = subst (IsCount (shifts (e ∷ es)) high) more m in
      goes e es true (inside low high e.0 (h.after 0 (omega arith) (omega arith)) (from.before 0 (omega arith)))
      ∙ ap (λ l. e ∷ l) (between_counts es zero n n (omega arith) (tail_after e es low h) (tail_before e es high n from))
  between_counts (e ∷ es) (suc i) n k is h m =
      let more : k ≡ suc (i + n) = omega arith in
      let from = subst (IsCount (shifts (e ∷ es)) high) more m in
      goes e es false (before low high e.0 (h.before 0 (omega arith)))
      ∙ between_counts es i n (i + n) refl (tail_before e es low i h) (tail_before e es high (i + n) from)

two_at : (d : Entry) (entries : List Entry) (i : ℕ) → suc i < length entries
    → take 2 (drop i entries) ≡ slice_index_or entries i d ∷ slice_index_or entries (suc i) d ∷ []
two_at d [] i l = absurd (omega arith)
two_at d (e ∷ []) i l = absurd (omega arith)
two_at d (e ∷ f ∷ es) zero l = refl
two_at d (e ∷ f ∷ es) (suc i) l = two_at d (f ∷ es) i (omega arith)

no_entry_between : (l h t : ℤ) → l <ℤ h → t <ℤ l → h ≤ℤ t → ⊥
no_entry_between l h t a b c = omega (arith, ints)

opposed : (x y a b : ℤ) → x ≡ a → y ≡ b → x <ℤ y → b ≤ℤ a → ⊥
opposed x y a b e f l m = omega (arith, ints, e, f)

module _ (set : FixedTimespanSet) (low high : ℤ) (b e : ℕ) (begins : IsCount (shifts_of set) low b) (ends : IsCount (shifts_of set) high e) where
  pub steady : low <ℤ high → e ≤ b → IsShape set low high (Steady b)
  steady order l = ⊎_elim {C = IsShape set low high (Steady b)}
      (λ lt. absurd (no_entry_between low high _ order (begins.before e lt) (ends.after e (omega arith) (omega (arith, begins.within)))))
      (λ le.
      let same : e ≡ b = omega arith in
      let here = subst (IsCount (shifts_of set) high) same ends in
      (between_counts low high set.others b 0 b (omega arith) begins here, begins, here))
      (cases_lt e b)

  two : e ≡ suc (suc b) → entries_between set.others low high ≡ entry_in set b ∷ entry_in set (suc b) ∷ []
  two is =
      between_counts low high set.others b 2 e (omega arith) begins ends
      ∙ two_at (pos 0, set.first) set.others b (omega (arith, ends.within, length-shifts set.others))

  pub pair : (f : ℕ) → e ≡ suc (suc b) → f ≡ suc b → f < 18446744073709551615 → (shift_at (shifts_of set) b).0 <ℤ (shift_at (shifts_of set) (suc b)).0
      → IsShape set low high (Pair b f)
  pair f is next bound order =
      let all = length-shifts set.others in
      let x = shift_is (pos 0, set.first) set.others b (omega (arith, ends.within, all)) in
      let y = shift_is (pos 0, set.first) set.others (suc b) (omega (arith, ends.within, all)) in
      ((two is, subst (λ (s : ℤ × ℤ). s.0 <ℤ (entry_in set (suc b)).0) x (subst (λ (s : ℤ × ℤ). (shift_at (shifts_of set) b).0 <ℤ s.0) y order)), next, bound, begins, subst (IsCount (shifts_of set) high) is ends)

  count : b ≤ e → length (entries_between set.others low high) ≡ e - b
  count l =
      ap length (between_counts low high set.others b (e - b) e (omega arith) begins ends)
      ∙ length-take-le (e - b) (drop b set.others) (omega (arith, length-drop b set.others, ends.within, length-shifts set.others))

  pub other : b < e → (e ≡ suc (suc b) → (shift_at (shifts_of set) (suc b)).0 ≤ℤ (shift_at (shifts_of set) b).0) → IsShape set low high Other
  other l not_later = (
    (λ none. let n = ap length none in omega (arith, count (omega arith), n)),
    (λ x y rising.
        let all = length-shifts set.others in
        let is : e ≡ suc (suc b) = omega (arith, count (omega arith), ap length rising.0) in
        let same = sym rising.0 ∙ two is in
        let first = shift_is (pos 0, set.first) set.others b (omega (arith, ends.within, all)) in
        let second = shift_is (pos 0, set.first) set.others (suc b) (omega (arith, ends.within, all)) in
        let low_is : x.0 ≡ (shift_at (shifts_of set) b).0 = ap (λ es. (slice_index_or es 0 x).0) same ∙ sym (ap (λ (s : ℤ × ℤ). s.0) first) in
        let high_is : y.0 ≡ (shift_at (shifts_of set) (suc b)).0 = ap (λ es. (slice_index_or es 1 y).0) same ∙ sym (ap (λ (s : ℤ × ℤ). s.0) second) in
        opposed _ _ _ _ low_is high_is rising.1 (not_later is)),
  )

not_below : (k : ℕ) → false ≡ nat_lt k 0
not_below k = grind (arith, nat_tests)

first_below : (n : ℕ) → true ≡ nat_lt 0 (suc n)
first_below n = grind (arith, nat_tests)

next_below : (k n : ℕ) → nat_lt k n ≡ nat_lt (suc k) (suc n)
next_below k n = both_ways _ _ (λ h. grind (arith, nat_tests, h)) (λ h. grind (arith, nat_tests, h))

-- some entry lies at a second or past it exactly where not all lie before
pub later_is : (entries : List Entry) (second : ℤ) (k : ℕ) → IsCount (shifts entries) second k
    → list_any (λ (entry : Entry). int_le second entry.0) entries ≡ nat_lt k (length entries)
later_is [] second k h = not_below k
later_is (e ∷ es) second zero h =
    ap (λ b. b || list_any (λ (entry : Entry). int_le second entry.0) es) (le_pass second e.0 (h.after 0 (omega arith) (omega arith)))
    ∙ first_below (length es)
later_is (e ∷ es) second (suc k) h =
    ap (λ b. b || list_any (λ (entry : Entry). int_le second entry.0) es) (le_fail second e.0 (h.before 0 (omega arith)))
    ∙ later_is es second k (tail_before e es second k h) ∙ next_below k (length es)

-- ---- the span in force at a second

abbrev span_at : FixedTimespan → Entry → List Entry → ℕ → FixedTimespan
span_at first d entries zero = first
span_at first d entries (suc i) = (slice_index_or entries i d).1

span_at_tail : (first : FixedTimespan) (d e : Entry) (es : List Entry) (k : ℕ) → span_at e.1 d es k ≡ span_at first d (e ∷ es) (suc k)
span_at_tail first d e es zero = refl
span_at_tail first d e es (suc k) = refl

-- a cut before the first entry is one of those behind it, and so is any other, an entry earlier
cut_before : (e : Entry) (es : List Entry) (s : ℤ) → IsCut (shifts (e ∷ es)) zero s → IsCut (shifts es) zero s
cut_before e es s h =
    record { within = omega arith; before = λ j l. absurd (omega arith); after = λ j l m. h.after (suc j) (omega arith) (omega (arith, m)) }

cut_behind : (e : Entry) (es : List Entry) (k : ℕ) (s : ℤ) → IsCut (shifts (e ∷ es)) (suc k) s → IsCut (shifts es) k s
cut_behind e es k s h = record {
  within = omega (arith, h.within);
  before = λ j l. h.before (suc j) (omega arith);
  after = λ j l m. h.after (suc j) (omega arith) (omega (arith, m));
}

span_from_cut : (first : FixedTimespan) (d : Entry) (entries : List Entry) (k : ℕ) (s : ℤ) → IsCut (shifts entries) k s
    → span_from first entries s ≡ span_at first d entries k
span_from_cut first d [] zero s h = refl
span_from_cut first d [] (suc k) s h = absurd (omega (arith, h.within))
span_from_cut first d (e ∷ es) zero s h =
    ap (λ b. last_span first (cond b (e ∷ filter (λ (r : Entry). int_le r.0 s) es) (filter (λ (r : Entry). int_le r.0 s) es)))
    (le_fail e.0 s (h.after 0 (omega arith) (omega arith)))
    ∙ span_from_cut first d es zero s (cut_before e es s h)
span_from_cut first d (e ∷ es) (suc k) s h =
    ap (λ b. last_span first (cond b (e ∷ filter (λ (r : Entry). int_le r.0 s) es) (filter (λ (r : Entry). int_le r.0 s) es)))
    (le_pass e.0 s (h.before 0 (omega arith)))
    ∙ span_from_cut e.1 d es k s (cut_behind e es k s h) ∙ span_at_tail first d e es k

span_in-is : (set : FixedTimespanSet) (k : ℕ) → span_at set.first (pos 0, set.first) set.others k ≡ span_in set k
span_in-is set zero = refl
span_in-is set (suc k) = refl

-- of as many entries as lie at or before it
pub span_from-count : (set : FixedTimespanSet) (k : ℕ) (s : ℤ) → IsCut (shifts_of set) k s → span_from set.first set.others s ≡ span_in set k
span_from-count set k s cut = span_from_cut set.first (pos 0, set.first) set.others k s cut ∙ span_in-is set k
