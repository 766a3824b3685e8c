-- Changes by their places.
use Rattle.std.proofs.{Common.{◌≡◌, ◌+◌, ◌<◌, ◌≤◌, ℕ, zero, suc, Bool, true, false, cond, ℤ, pos, ◌≤ℤ◌, ◌<ℤ◌, List, [], ◌∷◌, length, map, take, drop, refl, sym, ap, subst, ◌∙◌, arith}, lemmas.Int.{ints}, lemmas.List.{length-map}, lemmas.Option.{same_Some, none-some}}
use Rattle.std.specs.{Prelude.{◌&&◌, not, Option, Some, None, filter, int_le, int_lt}, List.{slice_get, slice_index_or}, Ordering.{int_eq}}
use Rattle.basics.specs.ComparisonLaws.{le_pass, le_fail, lt_pass, lt_fail, lt_from_pass, lt_from_fail, eq_pass}
use Rattle.zone_spans.specs.{Collapse.{is_same_span}, Entries.{Entry}, declared.span.FixedTimespan.{FixedTimespan}}
use Rattle.tz_lookup.specs.{Sets.{shift_of, shifts_of, span_in, total_of_span}, Spans.{shift_at, IsCut, TimesDontFall}, declared.set.FixedTimespanSet.{FixedTimespanSet}}
use Rattle.sefunjaro.specs.{Changes.{change_of, changes_of, is_within, last_span, next_after, saving_at, settled_changes, span_before, window}, ChangeSteps.{how_many, with_change, AreParted, HasPut, IsChangeAt}, Replies.{span_on}, Rooms.{filled, filled_at}}
use Rattle.sefunjaro.specs.declared.changes.Change.{Change}
use Rattle.sefunjaro.proofs.{AskLemmas.{all_taken, dropped}, CaseLemmas.{no_zero, next}}

-- what is in force after k entries
abbrev span_after : FixedTimespan → Entry → List Entry → ℕ → FixedTimespan
span_after first default entries zero = first
span_after first default entries (suc k) = (slice_index_or entries k default).1

one_later : (first : FixedTimespan) (default e : Entry) (es : List Entry) (k : ℕ)
    → span_after e.1 default es k ≡ span_after first default (e ∷ es) (suc k)
one_later first default e es zero = refl
one_later first default e es (suc k) = refl

abbrev passed : (ℤ → Bool) → List Entry → List Entry
passed test entries = filter (λ entry. test entry.0) entries

-- where the first k entries pass a test, and the others don't, the last that passes puts in force what is in force after k entries
passed_span : (test : ℤ → Bool) (first : FixedTimespan) (default : Entry) (entries : List Entry) (k : ℕ) → k ≤ length entries
    → ((j : ℕ) → j < k → test (shift_at (map shift_of entries) j).0 ≡ true)
    → ((j : ℕ) → k ≤ j → j < length entries → test (shift_at (map shift_of entries) j).0 ≡ false)
    → last_span first (passed test entries) ≡ span_after first default entries k
passed_span test first default [] zero l before after = refl
passed_span test first default [] (suc k) l before after = absurd (omega (arith, l))
passed_span test first default (e ∷ es) zero l before after =
    ap (λ b. last_span first (cond b (e ∷ passed test es) (passed test es))) (after 0 (omega arith) (omega arith))
    ∙ passed_span test first default es zero (omega arith) (λ j m. absurd (omega (arith, m))) (λ j m n. after (suc j) (omega arith) (omega (arith, n)))
passed_span test first default (e ∷ es) (suc k) l before after =
    ap (λ b. last_span first (cond b (e ∷ passed test es) (passed test es))) (before 0 (omega arith))
    ∙ passed_span test e.1 default es k (omega (arith, l)) (λ j m. before (suc j) (omega (arith, m))) (λ j m n. after (suc j) (omega (arith, m)) (omega (arith, n)))
    ∙ one_later first default e es k

span_is : (set : FixedTimespanSet) (default : Entry) (k : ℕ) → default ≡ (pos 0, set.first)
    → span_after set.first default set.others k ≡ span_in set k
span_is set default zero e = refl
span_is set default (suc k) e = ap (λ d. (slice_index_or set.others k d).1) e

-- what is in force at a second is the span at the cut
pub on_is : (set : FixedTimespanSet) (second : ℤ) (k : ℕ) → IsCut (shifts_of set) k second → span_on set second ≡ span_in set k
unfolding span_on
on_is set second k cut =
    let size = length-map set.others shift_of in
    passed_span (λ s. int_le s second) set.first (pos 0, set.first) set.others k (omega (arith, cut.within, size))
    (λ j l. le_pass _ second (cut.before j l)) (λ j l m. le_fail _ second (cut.after j l (omega (arith, m, size))))
    ∙ span_is set (pos 0, set.first) k refl

-- so is the saving
pub saving_is : (set : FixedTimespanSet) (second : ℤ) (k : ℕ) → IsCut (shifts_of set) k second → saving_at set second ≡ (span_in set k).dst_offset
unfolding saving_at span_on
saving_is set second k cut = ap (λ span. span.dst_offset) (on_is set second k cut)

-- what is in force just before a second is the span at the place where the entries part
pub before_is : (set : FixedTimespanSet) (second : ℤ) (k : ℕ) → AreParted (shifts_of set) k second → span_in set k ≡ span_before set second
unfolding span_before
before_is set second k parted =
    let size = length-map set.others shift_of in
    sym (
    passed_span (λ s. int_lt s second) set.first (pos 0, set.first) set.others k (omega (arith, parted.within, size))
    (λ j l. lt_pass _ second (parted.before j l)) (λ j l m. lt_fail _ second (parted.after j l (omega (arith, m, size))))
    ∙ span_is set (pos 0, set.first) k refl
    )

eq_fail : (a b : ℤ) → (a ≡ b → ⊥) → int_eq a b ≡ false
eq_fail a b h = grind (arith, ints, h)

-- where another entry stands behind one at its second, what is settled_changes is settled_changes behind it
pub passed_over : (set : FixedTimespanSet) (entries : List Entry) (k : ℕ) → suc k < length entries → (shift_at (map shift_of entries) k).0 ≡ (shift_at (map shift_of entries) (suc k)).0
    → settled_changes (drop k (map (change_of set) entries)) ≡ settled_changes (drop (suc k) (map (change_of set) entries))
unfolding settled_changes
passed_over set [] k l e = absurd (omega (arith, l))
passed_over set (a ∷ []) k l e = absurd (omega (arith, l))
passed_over set (a ∷ b ∷ es) zero l e =
    ap (λ t. cond t (settled_changes (map (change_of set) (b ∷ es))) (change_of set a ∷ settled_changes (map (change_of set) (b ∷ es)))) (eq_pass a.0 b.0 e)
passed_over set (a ∷ b ∷ es) (suc k) l e = passed_over set (b ∷ es) k (omega (arith, l)) e

-- else the entry is settled_changes
pub is_settled : (set : FixedTimespanSet) (entries : List Entry) (k : ℕ) (change : Change) → slice_get (map (change_of set) entries) k ≡ Some change
    → (suc k < length entries → (shift_at (map shift_of entries) k).0 ≡ (shift_at (map shift_of entries) (suc k)).0 → ⊥)
    → settled_changes (drop k (map (change_of set) entries)) ≡ change ∷ settled_changes (drop (suc k) (map (change_of set) entries))
unfolding settled_changes
is_settled set [] k change found apart = absurd (none-some _ found)
is_settled set (a ∷ []) zero change found apart = ap (λ c. c ∷ []) (same_Some _ _ found)
is_settled set (a ∷ []) (suc k) change found apart = absurd (none-some _ found)
is_settled set (a ∷ b ∷ es) zero change found apart =
    ap (λ t. cond t (settled_changes (map (change_of set) (b ∷ es))) (change_of set a ∷ settled_changes (map (change_of set) (b ∷ es)))) (eq_fail a.0 b.0 (apart (omega arith)))
    ∙ ap (λ c. c ∷ settled_changes (map (change_of set) (b ∷ es))) (same_Some _ _ found)
is_settled set (a ∷ b ∷ es) (suc k) change found apart =
    is_settled set (b ∷ es) k change found (λ l e. apart (omega (arith, l)) e)

-- the second of the change at a place
pub second_is : (set : FixedTimespanSet) (entries : List Entry) (k : ℕ) (change : Change) → slice_get (map (change_of set) entries) k ≡ Some change
    → change.second ≡ (shift_at (map shift_of entries) k).0
second_is set [] k change found = absurd (none-some _ found)
second_is set (a ∷ es) zero change found = ap (λ c. c.second) (sym (same_Some _ _ found))
second_is set (a ∷ es) (suc k) change found = second_is set es k change found

-- an entry that a test doesn't pass makes no difference, whether it is settled_changes or not
over : (set : FixedTimespanSet) (test : ℤ → Bool) (a : Entry) (rest : List Change) (t : Bool) → test a.0 ≡ false
    → filter (λ change. test change.second) (cond t rest (change_of set a ∷ rest)) ≡ filter (λ change. test change.second) rest
over set test a rest true h = refl
over set test a rest false h = ap (λ t. cond t (change_of set a ∷ filter (λ change. test change.second) rest) (filter (λ change. test change.second) rest)) h

-- where a test passes none of the first k entries, it passes of the settled_changes changes what it passes of those from k on
pub passes_from : (set : FixedTimespanSet) (test : ℤ → Bool) (entries : List Entry) (k : ℕ) → k ≤ length entries
    → ((j : ℕ) → j < k → test (shift_at (map shift_of entries) j).0 ≡ false)
    → filter (λ change. test change.second) (settled_changes (map (change_of set) entries)) ≡ filter (λ change. test change.second) (settled_changes (drop k (map (change_of set) entries)))
unfolding settled_changes
passes_from set test entries zero l none = refl
passes_from set test [] (suc k) l none = absurd (omega (arith, l))
passes_from set test (a ∷ []) (suc k) l none =
    ap (λ t. cond t (change_of set a ∷ []) []) (none 0 (omega arith)) ∙ nothing k
  where
    nothing : (k : ℕ) → [] ≡ filter (λ change. test change.second) (settled_changes (drop k (map (change_of set) [])))
    nothing zero = refl
    nothing (suc k) = refl
passes_from set test (a ∷ b ∷ es) (suc k) l none =
    over set test a (settled_changes (map (change_of set) (b ∷ es))) (int_eq a.0 b.0) (none 0 (omega arith)) ∙ passes_from set test (b ∷ es) k (omega (arith, l)) (λ j m. none (suc j) (omega (arith, m)))

-- where a test passes none of some entries, it passes none of their settled_changes changes
none_pass : (set : FixedTimespanSet) (test : ℤ → Bool) (entries : List Entry) → ((j : ℕ) → j < length entries → test (shift_at (map shift_of entries) j).0 ≡ false)
    → filter (λ change. test change.second) (settled_changes (map (change_of set) entries)) ≡ []
unfolding settled_changes
none_pass set test [] none = refl
none_pass set test (a ∷ []) none = ap (λ t. cond t (change_of set a ∷ []) []) (none 0 (omega arith))
none_pass set test (a ∷ b ∷ es) none = over set test a (settled_changes (map (change_of set) (b ∷ es))) (int_eq a.0 b.0) (none 0 (omega arith)) ∙ none_pass set test (b ∷ es) (λ j m. none (suc j) (omega (arith, m)))

-- the same of those from k on
pub passes_none : (set : FixedTimespanSet) (test : ℤ → Bool) (entries : List Entry) (k : ℕ)
    → ((j : ℕ) → k ≤ j → j < length entries → test (shift_at (map shift_of entries) j).0 ≡ false)
    → filter (λ change. test change.second) (settled_changes (drop k (map (change_of set) entries))) ≡ []
passes_none set test entries zero none = none_pass set test entries (λ j m. none j (omega arith) m)
passes_none set test [] (suc k) none = none_pass set test [] (λ j m. absurd (omega (arith, m)))
passes_none set test (a ∷ es) (suc k) none = passes_none set test es k (λ j l m. none (suc j) (omega (arith, l)) (omega (arith, m)))

equal_from : (a b : ℤ) → false ≡ int_lt a b → a ≤ℤ b → a ≡ b
equal_from a b h l = omega (arith, ints, lt_from_fail a b (sym h), l)

apart_from : (a b : ℤ) → true ≡ int_lt a b → a ≡ b → ⊥
apart_from a b h e = omega (arith, ints, lt_from_pass a b (sym h), e)

-- where an entry and the next lie at one second
pub at_once : (set : FixedTimespanSet) (entries : List Entry) (k : ℕ) → TimesDontFall (map shift_of entries) → k + 1 < length entries
    → false ≡ int_lt (shift_at (map shift_of entries) k).0 (shift_at (map shift_of entries) (k + 1)).0
    → settled_changes (drop k (map (change_of set) entries)) ≡ settled_changes (drop (k + 1) (map (change_of set) entries))
at_once set entries k times l h =
    passed_over set entries k (omega (arith, l))
    (equal_from _ _ h (times k (k + 1) (omega arith) (omega (arith, l, length-map entries shift_of)))
    ∙ ap (λ n. (shift_at (map shift_of entries) n).0) (sym (next k)))
    ∙ ap (λ n. settled_changes (drop n (map (change_of set) entries))) (next k)

-- where they don't
pub not_at_once : (set : FixedTimespanSet) (entries : List Entry) (k : ℕ) (change : Change) → slice_get (map (change_of set) entries) k ≡ Some change
    → true ≡ int_lt (shift_at (map shift_of entries) k).0 (shift_at (map shift_of entries) (k + 1)).0
    → settled_changes (drop k (map (change_of set) entries)) ≡ change ∷ settled_changes (drop (k + 1) (map (change_of set) entries))
not_at_once set entries k change found h =
    is_settled set entries k change found (λ l e. apart_from _ _ h (e ∙ ap (λ n. (shift_at (map shift_of entries) n).0) (next k)))
    ∙ ap (λ n. change ∷ settled_changes (drop n (map (change_of set) entries))) (next k)

-- and where there is no next
pub last_of_all : (set : FixedTimespanSet) (entries : List Entry) (k : ℕ) (change : Change) → slice_get (map (change_of set) entries) k ≡ Some change → length entries ≤ k + 1
    → settled_changes (drop k (map (change_of set) entries)) ≡ change ∷ settled_changes (drop (k + 1) (map (change_of set) entries))
last_of_all set entries k change found h =
    is_settled set entries k change found (λ l e. absurd (omega (arith, l, h)))
    ∙ ap (λ n. change ∷ settled_changes (drop n (map (change_of set) entries))) (next k)

pub by_place : (set : FixedTimespanSet) (entries : List Entry) (k : ℕ) (default : Entry) → k < length entries
    → (slice_get (map (change_of set) entries) k ≡ Some (change_of set (slice_index_or entries k default)))
    × (shift_at (map shift_of entries) k ≡ shift_of (slice_index_or entries k default))
by_place set [] k default l = absurd (omega (arith, l))
by_place set (e ∷ es) zero default l = (refl, refl)
by_place set (e ∷ es) (suc k) default l = by_place set es k default (omega (arith, l))

-- what is told of the entry at a place
pub entry_is : (set : FixedTimespanSet) (k : ℕ) (change : Change) (span before : FixedTimespan) → k < length set.others
    → change.second ≡ (shift_at (shifts_of set) k).0 → change.offset ≡ total_of_span set (k + 1) → span ≡ span_in set (k + 1)
    → change.saving ≡ span.dst_offset → change.name_length ≡ length span.name → before ≡ span_before set change.second
    → change.differs ≡ not (is_same_span span before) → slice_get (map (change_of set) set.others) k ≡ Some change
entry_is set k change span before l at total is saves named was other =
    let default : Entry = (pos 0, set.first) in
    let found = by_place set set.others k default l in
    let s = at ∙ ap (λ s. s.0) found.1 in
    let o : change.offset ≡ (shift_at (shifts_of set) k).1 = total ∙ ap (total_of_span set) (sym (next k)) in
    let t = o ∙ ap (λ s. s.1) found.1 in
    let w : span ≡ (slice_index_or set.others k default).1 = is ∙ ap (span_in set) (sym (next k)) in
    let v = saves ∙ ap (λ span. span.dst_offset) w in
    let n = named ∙ ap (λ span. length span.name) w in
    let d = other ∙ (λ i. not (is_same_span (w i) (was i))) ∙ ap (λ second. not (is_same_span (slice_index_or set.others k default).1 (span_before set second))) s in
    found.0 ∙ ap Some (λ i. record { second = sym s i; offset = sym t i; saving = sym v i; name_length = sym n i; differs = sym d i })

-- the changes of a window that entries from a place on have
abbrev pub left_from : FixedTimespanSet → ℤ → ℤ → List Entry → ℕ → List Change
left_from set from to entries place = filter (is_within from to) (settled_changes (drop place (map (change_of set) entries)))

-- from a place of the entries on: how many changes of a window were met before it, and what stands in the room
pub record AreMet (set : FixedTimespanSet) (from to : ℤ) (entries : List Entry) (start : List Change) (place count : ℕ) (room : List Change) : Type 0 where
  pub few : count ≤ place
  pub every : count + length (left_from set from to entries place) ≡ length (left_from set from to entries 0)
  pub left : left_from set from to entries place ≡ drop count (left_from set from to entries 0)
  pub stands : room ≡ filled (take count (left_from set from to entries 0)) start

abbrev in_window : ℤ → ℤ → ℤ → Bool
in_window from to second = int_le from second && int_lt second to

lies_before : (from to second : ℤ) → second <ℤ from → in_window from to second ≡ false
lies_before from to second h = ap (λ b. b && int_lt second to) (le_fail from second h)

lies_after : (from to second : ℤ) → to ≤ℤ second → in_window from to second ≡ false
lies_after from to second h = either (int_le from second) (lt_fail second to h)
  where
    either : (b : Bool) → int_lt second to ≡ false → (b && int_lt second to) ≡ false
    either true e = e
    either false e = refl

lies_within : (from to second : ℤ) → from ≤ℤ second → second <ℤ to → in_window from to second ≡ true
lies_within from to second h l = (λ i. le_pass from second h i && lt_pass second to l i)

-- nothing was met before the first entry of the window
pub met_none : (set : FixedTimespanSet) (from to : ℤ) (entries : List Entry) (first : ℕ) (room : List Change) → AreParted (map shift_of entries) first from
    → AreMet set from to entries room first 0 room
unfolding filled
met_none set from to entries first room parted =
    let same : left_from set from to entries 0 ≡ left_from set from to entries first =
    passes_from set (in_window from to) entries first (omega (arith, parted.within, length-map entries shift_of))
    (λ j l. lies_before from to _ (parted.before j l)) in record {
      few = omega arith;
      every = omega (arith, ap length same);
      left = sym same;
      stands = refl;
    }

put_next : {A : Type 0} → (all : List A) (n : ℕ) (x : A) (rest room : List A) → drop n all ≡ x ∷ rest
    → filled_at n x (filled (take n all) room) ≡ filled (take (suc n) all) room
unfolding filled filled_at
put_next [] zero x rest room e = absurd (no_zero (ap length e))
put_next [] (suc n) x rest room e = absurd (no_zero (ap length e))
put_next (y ∷ all) zero x rest [] e = refl
put_next (y ∷ all) zero x rest (r ∷ room) e = ap (λ z. z ∷ room) (sym (ap (λ l. slice_index_or l 0 y) e))
put_next (y ∷ all) (suc n) x rest [] e = refl
put_next (y ∷ all) (suc n) x rest (r ∷ room) e = ap (λ l. y ∷ l) (put_next all n x rest room e)

-- one entry more, which has no change of its own
step_over : (set : FixedTimespanSet) (from to : ℤ) (entries : List Entry) (start room new : List Change) (place n m : ℕ) → AreMet set from to entries start place n room
    → settled_changes (drop place (map (change_of set) entries)) ≡ settled_changes (drop (place + 1) (map (change_of set) entries)) → m ≡ n + 0 → new ≡ room
    → AreMet set from to entries start (place + 1) m new
step_over set from to entries start room new place n m met same e put =
    let left : left_from set from to entries place ≡ left_from set from to entries (place + 1) = ap (λ cs. filter (is_within from to) cs) same in
    let stays : n ≡ m = omega (arith, e) in record {
      few = omega (arith, met.few, e);
      every = omega (arith, met.every, ap length left, e);
      left = sym left ∙ met.left ∙ ap (λ k. drop k (left_from set from to entries 0)) stays;
      stands = put ∙ met.stands ∙ ap (λ k. filled (take k (left_from set from to entries 0)) start) stays;
    }

-- one that has
step_on : (set : FixedTimespanSet) (from to : ℤ) (entries : List Entry) (start room new : List Change) (place n m : ℕ) (change : Change) → AreMet set from to entries start place n room
    → settled_changes (drop place (map (change_of set) entries)) ≡ change ∷ settled_changes (drop (place + 1) (map (change_of set) entries))
    → is_within from to change ≡ true → m ≡ n + 1 → new ≡ filled_at n change room
    → AreMet set from to entries start (place + 1) m new
step_on set from to entries start room new place n m change met found inside e put =
    let all = left_from set from to entries 0 in let rest = left_from set from to entries (place + 1) in
    let left : left_from set from to entries place ≡ change ∷ rest =
    ap (λ cs. filter (is_within from to) cs) found ∙ ap (λ b. cond b (change ∷ rest) rest) inside in
    let there : drop n all ≡ change ∷ rest = sym met.left ∙ left in
    let more : suc n ≡ m = omega (arith, e) in record {
      few = omega (arith, met.few, e);
      every = omega (arith, met.every, ap length left, e);
      left = dropped all n change rest there ∙ ap (λ k. drop k all) (sym e);
      stands = put ∙ ap (filled_at n change) met.stands ∙ put_next all n change rest start there ∙ ap (λ k. filled (take k all) start) more;
    }

-- one entry more of the window
pub met_more : (set : FixedTimespanSet) (from to : ℤ) (entries : List Entry) (start room new : List Change) (place n m : ℕ) → AreMet set from to entries start place n room
    → place < length entries → from ≤ℤ (shift_at (map shift_of entries) place).0 → (shift_at (map shift_of entries) place).0 <ℤ to
    → HasPut (map (change_of set) entries) place n m room new → AreMet set from to entries start (place + 1) m new
met_more set from to entries start room new place n m met l begun lasts put = by_change put.found put.is_at put.raised put.stands
  where
    by_change : (found : Option Change) → IsChangeAt (map (change_of set) entries) place found → m ≡ n + how_many found
        → new ≡ with_change found n room → AreMet set from to entries start (place + 1) m new
    by_change None at counted puts = step_over set from to entries start room new place n m met at counted puts
    by_change (Some change) at counted puts =
        let second : change.second ≡ (shift_at (map shift_of entries) place).0 = second_is set entries place change at.0 in
        step_on set from to entries start room new place n m change met at.1
        (ap (in_window from to) second ∙ lies_within from to _ begun lasts) counted puts

-- at the end of the window all were met
pub met_all : (set : FixedTimespanSet) (from to : ℤ) (entries : List Entry) (start room : List Change) (place n : ℕ) → AreMet set from to entries start place n room
    → ((j : ℕ) → place ≤ j → j < length entries → to ≤ℤ (shift_at (map shift_of entries) j).0)
    → (room ≡ filled (left_from set from to entries 0) start) × (n ≡ length (left_from set from to entries 0))
met_all set from to entries start room place n met late =
    let all = left_from set from to entries 0 in
    let none : left_from set from to entries place ≡ [] =
    passes_none set (in_window from to) entries place (λ j l m. lies_after from to _ (late j l m)) in
    let every : n ≡ length all = omega (arith, met.every, ap length none) in
    (met.stands ∙ ap (λ l. filled l start) (all_taken all n (omega (arith, every))), every)

-- and so of all of a window, by the seconds that 64 bits hold
pub met_window : (set : FixedTimespanSet) (from to a b : ℤ) (start room : List Change) (place n : ℕ) → a ≡ from → b ≡ to
    → AreMet set a b set.others start place n room → ((j : ℕ) → place ≤ j → j < length set.others → b ≤ℤ (shift_at (map shift_of set.others) j).0)
    → (room ≡ filled (window set from to) start) × (n ≡ length (window set from to))
unfolding window
met_window set from to a b start room place n same until met late =
    subst (λ x. (room ≡ filled (window set x to) start) × (n ≡ length (window set x to))) same
    (subst (λ y. (room ≡ filled (window set a y) start) × (n ≡ length (window set a y))) until (met_all set a b set.others start room place n met late))

-- the entry in the middle lies before a second, and so do those below it
pub before_more : (entries : List Entry) (middle : ℕ) (second : ℤ) → TimesDontFall (map shift_of entries) → middle < length entries
    → true ≡ int_lt (shift_at (map shift_of entries) middle).0 second
    → (j : ℕ) → j < middle + 1 → (shift_at (map shift_of entries) j).0 <ℤ second
before_more entries middle second times m h j l =
    omega (arith, ints, times j middle (omega (arith, l)) (omega (arith, m, length-map entries shift_of)), lt_from_pass _ second (sym h))

-- or it doesn't, and those above it don't
pub after_more : (entries : List Entry) (middle : ℕ) (second : ℤ) → TimesDontFall (map shift_of entries)
    → false ≡ int_lt (shift_at (map shift_of entries) middle).0 second
    → (j : ℕ) → middle ≤ j → j < length entries → second ≤ℤ (shift_at (map shift_of entries) j).0
after_more entries middle second times h j l m =
    omega (arith, ints, times middle j l (omega (arith, m, length-map entries shift_of)), lt_from_fail _ second (sym h))

pub parted_at : (entries : List Entry) (low high : ℕ) (second : ℤ) → low ≤ high → high ≤ low → high ≤ length entries
    → ((j : ℕ) → j < low → (shift_at (map shift_of entries) j).0 <ℤ second)
    → ((j : ℕ) → high ≤ j → j < length entries → second ≤ℤ (shift_at (map shift_of entries) j).0) → AreParted (map shift_of entries) low second
parted_at entries low high second order met within before after = record {
  within = omega (arith, order, within, length-map entries shift_of);
  before = before;
  after = λ j l m. after j (omega (arith, met, l)) (omega (arith, m, length-map entries shift_of));
}

-- the changes after a second, from the cut on
pub later_from : (entries : List Entry) (k : ℕ) (second : ℤ) → IsCut (map shift_of entries) k second
    → (j : ℕ) → k ≤ j → j < length entries → second <ℤ (shift_at (map shift_of entries) j).0
later_from entries k second cut j l m = cut.after j l (omega (arith, m, length-map entries shift_of))

pub left_after : (set : FixedTimespanSet) (entries : List Entry) (k : ℕ) (second : ℤ) → IsCut (map shift_of entries) k second
    → filter (λ change. int_lt second change.second) (settled_changes (map (change_of set) entries))
    ≡ filter (λ change. int_lt second change.second) (settled_changes (drop k (map (change_of set) entries)))
left_after set entries k second cut =
    passes_from set (λ s. int_lt second s) entries k (omega (arith, cut.within, length-map entries shift_of)) (λ j l. lt_fail second _ (cut.before j l))

-- the first of them, and that there is none
pub next_found : (set : FixedTimespanSet) (second : ℤ) (place : ℕ) (change : Change) (rest : List Change)
    → filter (λ change. int_lt second change.second) (changes_of set)
    ≡ filter (λ change. int_lt second change.second) (settled_changes (drop place (map (change_of set) set.others)))
    → slice_get (map (change_of set) set.others) place ≡ Some change → settled_changes (drop place (map (change_of set) set.others)) ≡ change ∷ rest
    → second <ℤ (shift_at (shifts_of set) place).0 → Some change ≡ next_after set second
unfolding next_after
next_found set second place change rest left found is later =
    let others = filter (λ change. int_lt second change.second) rest in
    let at : int_lt second change.second ≡ true = ap (int_lt second) (second_is set set.others place change found) ∙ lt_pass second _ later in
    sym (ap (λ cs. slice_get cs 0) (left ∙ ap (filter (λ change. int_lt second change.second)) is ∙ ap (λ b. cond b (change ∷ others) others) at))

pub none_next : (set : FixedTimespanSet) (second : ℤ) (place : ℕ)
    → filter (λ change. int_lt second change.second) (changes_of set)
    ≡ filter (λ change. int_lt second change.second) (settled_changes (drop place (map (change_of set) set.others)))
    → length set.others ≤ place → None ≡ next_after set second
unfolding next_after
none_next set second place left h =
    sym (ap (λ cs. slice_get cs 0) (left ∙ passes_none set (λ s. int_lt second s) set.others place (λ j l m. absurd (omega (arith, l, m, h)))))
