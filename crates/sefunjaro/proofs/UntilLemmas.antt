-- How long the answer of a zone holds: from the last entry on, and up to the next change.
use Rattle.std.proofs.{Common.{◌≡◌, ◌<◌, ◌≤◌, ◌∙◌, ℕ, zero, suc, Bool, true, false, cond, ℤ, ◌<ℤ◌, List, [], ◌∷◌, length, map, filter, drop, int_le, int_lt, refl, sym, ap, subst, ⊎_elim, arith}, lemmas.Bool.{cases_lt}, lemmas.List.{length-map}}
use Rattle.std.proofs.lemmas.Option.{same_Some, none-some}
use Rattle.std.specs.{Int.{int_max}, Prelude.{Option, Some, None, option_map, IfSome}, List.{slice_get}, Ordering.{int_eq}}
use Rattle.basics.specs.ComparisonLaws.{eq_from_pass, le_pass, le_fail, lt_pass}
use Rattle.civil_base.specs.Instants.{seconds_of}
use Rattle.zone_spans.specs.Entries.{Entry}
use Rattle.tz_lookup.specs.{Sets.{shift_of, shifts_of}, Spans.{shift_at, IsCut}, declared.set.FixedTimespanSet.{FixedTimespanSet}, Stretches.{least_second, begin_second}}
use Rattle.sefunjaro.specs.{Answers.{begun_at, end_second, ended_at, last_second, second_of_change, up_to_end, IsBetween}, AnswerSteps.{IsAround, IsToldBySpan}, Changes.{change_of, changes_of, next_after, settled_changes}}
use Rattle.sefunjaro.specs.declared.{answer.Answer.{Answer}, answer.Around.{Around}, changes.Change.{Change}, zone.Origin.{Origin}}
use Rattle.sefunjaro.proofs.ChangeLemmas.{left_after, none_next}

-- ---- from the last entry on
abbrev passed : (ℤ → Bool) → List Entry → List Entry
passed test entries = filter (λ entry. test entry.0) entries

one_on : (least : ℤ) (e : Entry) (es : List Entry) (k : ℕ)
    → begin_second e.0 (map shift_of es) k ≡ begin_second least (map shift_of (e ∷ es)) (suc k)
one_on least e es zero = refl
one_on least e es (suc k) = refl

-- where the first k entries pass a test, and the others don't, the last that passes begins the span of that number
last_passed : (test : ℤ → Bool) (least : ℤ) (entries : List Entry) (k : ℕ) → k ≤ length entries
    → ((j : ℕ) → j < k → test (shift_at (map shift_of entries) j).0 ≡ true)
    → ((j : ℕ) → k ≤ j → j < length entries → test (shift_at (map shift_of entries) j).0 ≡ false)
    → last_second least (passed test entries) ≡ begin_second least (map shift_of entries) k
last_passed test least [] zero l before after = refl
last_passed test least [] (suc k) l before after = absurd (omega (arith, l))
last_passed test least (e ∷ es) zero l before after =
    ap (λ b. last_second least (cond b (e ∷ passed test es) (passed test es))) (after 0 (omega arith) (omega arith))
    ∙ last_passed test least es zero (omega arith) (λ j m. absurd (omega (arith, m))) (λ j m n. after (suc j) (omega arith) (omega (arith, n)))
last_passed test least (e ∷ es) (suc k) l before after =
    ap (λ b. last_second least (cond b (e ∷ passed test es) (passed test es))) (before 0 (omega arith))
    ∙ last_passed test e.0 es k (omega (arith, l)) (λ j m. before (suc j) (omega (arith, m))) (λ j m n. after (suc j) (omega (arith, m)) (omega (arith, n)))
    ∙ one_on least e es k

begun : (first : ℤ) (set : FixedTimespanSet) (second : ℤ) (k : ℕ) → IsCut (shifts_of set) k second
    → begun_at first set second ≡ int_max first (begin_second least_second (shifts_of set) k)
begun first set second k cut =
    let size = length-map set.others shift_of in
    ap (int_max first) (last_passed (λ s. int_le s second) least_second set.others k (omega (arith, cut.within, size))
    (λ j l. le_pass _ second (cut.before j l)) (λ j l m. le_fail _ second (cut.after j l (omega (arith, m, size)))))

-- ---- up to the next change
-- the second of the first of some changes that come after a second
abbrev first_after : ℤ → List Change → Option ℤ
first_after second changes = option_map (λ (change : Change). change.second) (slice_get (filter (λ change. int_lt second change.second) changes) 0)

-- an entry after the second is the first, or another at its second is
first_of_two : (set : FixedTimespanSet) (second : ℤ) (a b : Entry) (rest : List Change) (t : Bool) → second <ℤ a.0 → (t ≡ true → a.0 ≡ b.0)
    → (second <ℤ b.0 → first_after second rest ≡ Some b.0) → first_after second (cond t rest (change_of set a ∷ rest)) ≡ Some a.0
first_of_two set second a b rest true later same next = next (subst (λ s. second <ℤ s) (same refl) later) ∙ ap Some (sym (same refl))
first_of_two set second a b rest false later same next =
    let others = filter (λ change. int_lt second change.second) rest in
    ap (λ t. option_map (λ (change : Change). change.second) (slice_get (cond t (change_of set a ∷ others) others) 0)) (lt_pass second a.0 later)

first_from : (set : FixedTimespanSet) (second : ℤ) (entries : List Entry) (k : ℕ) → k < length entries → second <ℤ (shift_at (map shift_of entries) k).0
    → first_after second (settled_changes (drop k (map (change_of set) entries))) ≡ Some (shift_at (map shift_of entries) k).0
unfolding settled_changes
first_from set second [] k l later = absurd (omega (arith, l))
first_from set second (a ∷ []) zero l later =
    ap (λ t. option_map (λ (change : Change). change.second) (slice_get (cond t (change_of set a ∷ []) []) 0)) (lt_pass second a.0 later)
first_from set second (a ∷ []) (suc k) l later = absurd (omega (arith, l))
first_from set second (a ∷ b ∷ es) zero l later =
    first_of_two set second a b (settled_changes (map (change_of set) (b ∷ es))) (int_eq a.0 b.0) later (eq_from_pass a.0 b.0)
    (first_from set second (b ∷ es) zero (omega arith))
first_from set second (a ∷ b ∷ es) (suc k) l later = first_from set second (b ∷ es) k (omega (arith, l)) later

by_second : (found : Option Change) (s : ℤ) → option_map (λ (change : Change). change.second) found ≡ Some s → up_to_end s ≡ second_of_change found
by_second None s e = absurd (none-some _ e)
by_second (Some change) s e = ap up_to_end (sym (same_Some _ _ e))

next_is : (set : FixedTimespanSet) (second : ℤ) (k : ℕ) → IsCut (shifts_of set) k second → k < length (shifts_of set)
    → up_to_end (shift_at (shifts_of set) k).0 ≡ second_of_change (next_after set second)
unfolding next_after
next_is set second k cut l =
    by_second (slice_get (filter (λ change. int_lt second change.second) (changes_of set)) 0) (shift_at (shifts_of set) k).0
    (ap (λ cs. option_map (λ (change : Change). change.second) (slice_get cs 0)) (left_after set set.others k second cut)
    ∙ first_from set second set.others k (omega (arith, l, length-map set.others shift_of)) (cut.after k (omega arith) l))

none_is : (set : FixedTimespanSet) (second : ℤ) (k : ℕ) → IsCut (shifts_of set) k second → length (shifts_of set) ≤ k
    → end_second ≡ second_of_change (next_after set second)
none_is set second k cut l =
    ap second_of_change (none_next set second k (left_after set set.others k second cut) (omega (arith, l, length-map set.others shift_of)))

pub between : (first : ℤ) (set : FixedTimespanSet) (second : ℤ) (answer : Answer) (around : Around) → IsAround first set second around → answer.from ≡ around.from → answer.until ≡ around.until
    → IsBetween first set second answer
between first set second answer around is from until =
    let cut = is.throughout second is.begun is.lasts in record {
      from = from ∙ is.from ∙ sym (begun first set second around.span cut);
      until = until ∙ ⊎_elim {C = around.until ≡ ended_at set second}
          (λ l. is.until l ∙ next_is set second around.span cut l)
          (λ l. is.at_end l ∙ none_is set second around.span cut l)
          (cases_lt around.span (length (shifts_of set)));
    }

-- an answer by a span holds between two entries
pub held : (origin : Origin) (first : ℤ) (set : FixedTimespanSet) (t : ℤ) (old new : List ℕ) (result : Option Answer) → IsToldBySpan origin first set t old new result
    → IfSome result (IsBetween first set (seconds_of t))
held origin first set t old new None told = tt
held origin first set t old new (Some answer) told = between first set (seconds_of t) answer told.around told.is_around told.made.from told.made.until
