-- The first entries of a set.
use Rattle.std.proofs.{Common.{◌≡◌, ℕ, zero, suc, ◌<◌, ◌≤◌, Bool, true, cond, List, [], ◌∷◌, length, map, filter, take, ℤ, pos, ◌≤ℤ◌, ◌<ℤ◌, int_le, refl, sym, ap, ◌∙◌, subst, arith}, lemmas.Bool.{and_from, and_parts}, lemmas.Int.{ints}}
use Rattle.std.proofs.lemmas.List.{length-map, take-map, Elements.{All-take}}
use Rattle.std.specs.{List.{list_all, slice_index_or}, Prelude.{All}}
use Rattle.basics.specs.ComparisonLaws.{le_pass, le_fail}
use Rattle.civil_base.specs.Ranges.{is_offset}
use Rattle.zone_spans.specs.Entries.{Entry, total}
use Rattle.tz_lookup.specs.{Sets.{IsAccepted, IsSpanTime, schedule_of, shift_of, shifts_of, span_in}, Spans.{IsCut, Shift, shift_at}, declared.set.FixedTimespanSet.{FixedTimespanSet}}
use Rattle.zone_tzif.specs.EverFiles.{entries_until}

-- those before the first one past a second are all up to it
cut_is : (es : List Entry) (i : ℕ) (second : ℤ) → IsCut (map shift_of es) i second → take i es ≡ filter (λ (e : Entry). int_le e.0 second) es
cut_is [] zero second h = refl
cut_is [] (suc i) second h = absurd (omega (arith, h.within))
cut_is (e ∷ es) zero second h =
    let none : IsCut (map shift_of es) zero second = record {
      within = omega arith;
      before = λ j l. absurd (omega arith);
      after = λ j l m. h.after (suc j) (omega arith) (omega (arith, m));
    } in
    cut_is es zero second none
    ∙ sym (ap (λ b. cond b (e ∷ filter (λ (e : Entry). int_le e.0 second) es) (filter (λ (e : Entry). int_le e.0 second) es))
    (le_fail e.0 second (h.after 0 (omega arith) (omega arith))))
cut_is (e ∷ es) (suc i) second h =
    let fewer : IsCut (map shift_of es) i second = record {
      within = omega (arith, h.within);
      before = λ j l. h.before (suc j) (omega arith);
      after = λ j l m. h.after (suc j) (omega arith) (omega (arith, m));
    } in
    ap (λ l. e ∷ l) (cut_is es i second fewer)
    ∙ sym (ap (λ b. cond b (e ∷ filter (λ (e : Entry). int_le e.0 second) es) (filter (λ (e : Entry). int_le e.0 second) es))
    (le_pass e.0 second (h.before 0 (omega arith))))

-- so many entries come up to a second
pub cut_by : (set : FixedTimespanSet) (i : ℕ) (second : ℤ) → IsAccepted (schedule_of set) → i ≤ length set.others
    → ((j : ℕ) → j < i → (shift_at (shifts_of set) j).0 ≤ℤ second) → (i < length set.others → second <ℤ (shift_at (shifts_of set) i).0)
    → IsCut (shifts_of set) i second
cut_by set i second ok l before next =
    let long : length (shifts_of set) ≡ length set.others = length-map _ _ in
    record {
      within = omega (arith, l, long);
      before = before;
      after = λ j from within.
          let here = next (omega (arith, from, within, long)) in
          let order = ok.times i j from within in
          omega (arith, ints, here, order);
    }

-- so they are those up to it
pub count_is : (set : FixedTimespanSet) (i : ℕ) (second : ℤ) → IsCut (shifts_of set) i second → take i set.others ≡ entries_until second set.others
unfolding entries_until
count_is set i second cut = cut_is set.others i second cut

pub front_length : (es : List Entry) (n : ℕ) → n ≤ length es → length (take n es) ≡ n
front_length es zero l = refl
front_length [] (suc n) l = absurd (omega (arith, l))
front_length (e ∷ es) (suc n) l = ap suc (front_length es n (omega (arith, l)))

-- what stands at a place of the front
pub front_at : (es : List Entry) (n i : ℕ) (d : Entry) → i < length (take n es) → slice_index_or (take n es) i d ≡ slice_index_or es i d
front_at es zero i d l = absurd (omega (arith, l))
front_at [] (suc n) i d l = refl
front_at (e ∷ es) (suc n) zero d l = refl
front_at (e ∷ es) (suc n) (suc i) d l = front_at es n i d (omega (arith, l))

pub shift_front : (es : List Entry) (n i : ℕ) → i < length (map shift_of (take n es)) → shift_at (map shift_of (take n es)) i ≡ shift_at (map shift_of es) i
shift_front es zero i l = absurd (omega (arith, l))
shift_front [] (suc n) i l = refl
shift_front (e ∷ es) (suc n) zero l = refl
shift_front (e ∷ es) (suc n) (suc i) l = shift_front es n i (omega (arith, l))

front_length_map : (es : List Entry) (n : ℕ) → length (map shift_of (take n es)) ≤ length (map shift_of es)
front_length_map es zero = omega arith
front_length_map [] (suc n) = omega arith
front_length_map (e ∷ es) (suc n) = omega (arith, front_length_map es n)

front_all : (p : Shift → Bool) (es : List Entry) (n : ℕ) → list_all p (map shift_of es) ≡ true → list_all p (map shift_of (take n es)) ≡ true
front_all p es zero all = refl
front_all p [] (suc n) all = refl
front_all p (e ∷ es) (suc n) all =
    let parts = and_parts (p (shift_of e)) (list_all p (map shift_of es)) all in
    and_from _ _ parts.0 (front_all p es n parts.1)

abbrev pub front : FixedTimespanSet → ℕ → FixedTimespanSet
front set n = record { name = set.name; first = set.first; others = take n set.others }

pub accepted_front : (set : FixedTimespanSet) (n : ℕ) → IsAccepted (schedule_of set) → IsAccepted (schedule_of (front set n))
accepted_front set n ok =
    let parts = and_parts (is_offset (total set.first)) (list_all (λ (shift : Shift). is_offset shift.1) (shifts_of set)) ok.range in
    record {
      range = and_from _ _ parts.0 (front_all (λ shift. is_offset shift.1) set.others n parts.1);
      times = λ i j l m.
          let long = front_length_map set.others n in
          subst (λ (s : Shift). s.0 ≤ℤ (shift_at (map shift_of (take n set.others)) j).0) (sym (shift_front set.others n i (omega (arith, l, m))))
          (subst (λ (s : Shift). (shift_at (shifts_of set) i).0 ≤ℤ s.0) (sym (shift_front set.others n j m)) (ok.times i j l (omega (arith, m, long))));
      bound = subst (λ shifts. All (λ (s : Shift). IsSpanTime s.0) shifts) (take-map shift_of n set.others) (All-take (λ (s : Shift). IsSpanTime s.0) n (shifts_of set) ok.bound);
    }

pub take_length : (es : List Entry) (n i : ℕ) → i < length (take n es) → i < length (map shift_of (take n es))
take_length es n i l =
    let long : length (map shift_of (take n es)) ≡ length (take n es) = length-map _ _ in
    omega (arith, long, l)

-- the span of a number
pub span_front : (set : FixedTimespanSet) (n k : ℕ) → k ≤ length (take n set.others) → span_in (front set n) k ≡ span_in set k
span_front set n zero l = refl
span_front set n (suc i) l = ap (λ (e : Entry). e.1) (front_at set.others n i (pos 0, set.first) (omega (arith, l)))
