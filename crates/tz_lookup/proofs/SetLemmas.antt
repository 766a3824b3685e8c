-- What is read of a set's entries.
use Rattle.std.proofs.{Common.{◌≡◌, ℕ, zero, suc, ◌+◌, ◌-◌, ◌<◌, ◌≤◌, true, List, [], ◌∷◌, length, map, get_or, ℤ, pos, ◌+ℤ◌, ◌≤ℤ◌, refl, sym, ap, ◌∙◌, subst, ⊎_elim, arith}, lemmas.Bool.{cases_lt, and_parts}, lemmas.Int.{ints}}
use Rattle.std.proofs.{lemmas.List.{get_or-map, length-map}, Common.{w64, to_z, of_z, SFits}, lemmas.Int.{to_z-of_z}}
use Rattle.std.specs.{Prelude.{All, ◌↔◌, ◌&&◌}, List.{list_all}}
use Rattle.zone_spans.specs.Entries.{Entry, total}
use Rattle.civil_base.specs.{Ranges.{is_offset}, Ranges.{IsOffset}, RangeLaws.{offset_least, offset_greatest}}
use Rattle.tz_lookup.specs.{declared.set.FixedTimespanSet.{FixedTimespanSet}, Spans.{Shift, shift_at, local_start}, Sets.{shift_of, shifts_of, schedule_of, span_in, total_of_span, IsAccepted, IsSpanTime}}
use Rattle.basics.specs.ComparisonLaws.{le_le, le_from_eq}

pub shift_read : (es : List Entry) (k : ℕ) (d : Entry) → k < length es → shift_at (map shift_of es) k ≡ shift_of (get_or es k d)
shift_read [] k d l = absurd (omega arith)
shift_read (e ∷ es) zero d l = refl
shift_read (e ∷ es) (suc k) d l = shift_read es k d (omega arith)

-- the total of a span
pub span_total : (set : FixedTimespanSet) (i : ℕ) → i ≤ length set.others → total (span_in set i) ≡ total_of_span set i
span_total set zero l = refl
span_total set (suc k) l = sym (ap (λ (s : Shift). s.1) (shift_read set.others k (pos 0, set.first) (omega arith)))

pub count_same : (set : FixedTimespanSet) → length (shifts_of set) ≡ length set.others
count_same set = length-map set.others shift_of

all_tests : (es : List Entry) → list_all (λ (s : Shift). is_offset s.1) (map shift_of es) ≡ true → (k : ℕ) → k < length es →
    is_offset (shift_at (map shift_of es) k).1 ≡ true
all_tests [] h k l = absurd (omega arith)
all_tests (e ∷ es) h zero l = (and_parts (is_offset (total e.1)) _ h).0
all_tests (e ∷ es) h (suc k) l = all_tests es (and_parts (is_offset (total e.1)) _ h).1 k (omega arith)

-- each span of an accepted set has an offset
pub span_offset : (set : FixedTimespanSet) (i : ℕ) → IsAccepted (schedule_of set) → i ≤ length set.others
    → is_offset (total_of_span set i) ≡ true
span_offset set zero h l = (and_parts (is_offset (total set.first)) _ h.range).0
span_offset set (suc k) h l = all_tests set.others (and_parts (is_offset (total set.first)) _ h.range).1 k (omega arith)

pub time_bound : (set : FixedTimespanSet) (k : ℕ) → IsAccepted (schedule_of set) → k < length set.others
    → IsSpanTime (shift_at (shifts_of set) k).0
time_bound set k h l = h.bound k (pos 0, pos 0) (subst (λ n. k < n) (sym (count_same set)) l)

pub all_shifts : (P : Shift → Type 0) (es : List Entry) (d : Entry) → All P (map shift_of es) ↔ All (λ e. P (shift_of e)) es
all_shifts P es d0 = (
  (λ h k d l. subst P (get_or-map shift_of es k d (shift_of d) l)
      (h k (shift_of d) (subst (λ n. k < n) (sym (length-map es shift_of)) l))),
  (λ h k d l.
      let inside : k < length es = subst (λ n. k < n) (length-map es shift_of) l in
      subst P (sym (get_or-map shift_of es k d0 d inside)) (h k d0 inside)),
)

-- testing each span is testing each shift
pub tests_of_shifts : (es : List Entry)
    → list_all (λ (e : Entry). is_offset (total e.1)) es ≡ list_all (λ (s : Shift). is_offset s.1) (map shift_of es)
tests_of_shifts [] = refl
tests_of_shifts (e ∷ es) = ap (λ b. is_offset (total e.1) && b) (tests_of_shifts es)

pub no_fall_more : (shifts : List Shift) (h i : ℕ) → h + 1 ≡ i
    → ((a b : ℕ) → a ≤ b → b < i → b < length shifts → (shift_at shifts a).0 ≤ℤ (shift_at shifts b).0)
    → (shift_at shifts h).0 ≤ℤ (shift_at shifts i).0
    → (a b : ℕ) → a ≤ b → b < i + 1 → b < length shifts → (shift_at shifts a).0 ≤ℤ (shift_at shifts b).0
no_fall_more shifts h i e so_far step a b l m n =
    ⊎_elim {C = (shift_at shifts a).0 ≤ℤ (shift_at shifts b).0}
    (λ before. so_far a b l before n)
    (λ last.
    let here : i ≡ b = omega arith in
    ⊎_elim {C = (shift_at shifts a).0 ≤ℤ (shift_at shifts b).0}
    (λ less. le_le _ _ _ (so_far a h (omega arith) (omega arith) (omega arith))
    (subst (λ k. (shift_at shifts h).0 ≤ℤ (shift_at shifts k).0) here step))
    (λ same. let is : a ≡ b = omega arith in le_from_eq _ _ (ap (λ k. (shift_at shifts k).0) is))
    (cases_lt a b))
    (cases_lt b i)

sum_fits : (t o : ℤ) → IsSpanTime t → IsOffset o → SFits w64 (t +ℤ o)
sum_fits t o h k = omega (arith, ints, h.0, h.1, offset_least o k, offset_greatest o k)

-- a time and an offset add up within 64 bits
pub added_fits : (t o a b : ℤ) → a ≡ t → b ≡ o → IsSpanTime t → is_offset o ≡ true → SFits w64 (a +ℤ b)
added_fits t o a b e f h k = subst (SFits w64) (sym (λ i. e i +ℤ f i)) (sum_fits t o h k)

-- their sum in 64 bits is their sum
pub sum_is : (t o a b : ℤ) → a ≡ t → b ≡ o → IsSpanTime t → is_offset o ≡ true → to_z w64 (of_z w64 (a +ℤ b)) ≡ t +ℤ o
sum_is t o a b e f h k =
    (λ i. to_z w64 (of_z w64 (e i +ℤ f i))) ∙ to_z-of_z w64 (t +ℤ o) (sum_fits t o h k)

-- the local start of a span after the first
pub start_is : (set : FixedTimespanSet) (i : ℕ) → 0 < i
    → (shift_at (shifts_of set) (i - 1)).0 +ℤ total_of_span set i ≡ local_start (shifts_of set) i
start_is set zero h = absurd (omega arith)
start_is set (suc k) h = let e : suc k - 1 ≡ k = omega arith in ap (λ n. (shift_at (shifts_of set) n).0 +ℤ total_of_span set (suc k)) e
