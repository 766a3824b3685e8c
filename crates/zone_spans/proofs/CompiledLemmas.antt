-- The way from the tests of a zone's lines to its spans.
use Rattle.std.proofs.{Common.{◌≡◌, ℕ, Bool, true, false, not, ◌&&◌, ◌||◌, cond, List, [], ◌∷◌, ◌++◌, find, Option, Some, None, option_map, Result, Err, All, IsTrue, refl, sym, ap, ◌∙◌, subst}, lemmas.List.Sums.{AllPass-from_list_all}}
use Rattle.std.specs.{Cmp.{IsStrictWeakOrder}, List.{list_all, list_any}}
use Rattle.basics.specs.{Sorted.{put_in, stable_sort}, SortedLaws.{Rises, Rises-stable_sort}, InOrderLaws.{or_turned}, ComparisonLaws.{lt_from_fail}}
use Rattle.zone_table.specs.declared.zone.ZoneInfo.{ZoneInfo}
use Rattle.zone_spans.specs.declared.{fault.SpanFault.{SpanFault}, fault.SpanFault.TheVariants.{UnknownRuleset, MissingUntil, YearRange, RuleYears, DayRange, NoStandardSpan, NoMemory}, span.FixedTimespanSet.{FixedTimespanSet}}
use Rattle.zone_spans.specs.{Bounds.{IsSoundOver, is_bounded_line}, Causes.{IsDue, IsUnknown}, Collapse.{EntryTimesDontFall}, Compiled.{compiled_over, set_of, set_of_lines_over, unless}}
use Rattle.zone_spans.specs.{Entries.{Entry, first_span, fixed_span, is_sooner, is_standard, raw_entries_over, sorted_entries_over}, Faults.{begins_ruled, entry_test, first_met, is_unknown, leaves_year_over, line_fault, line_tests, schedule_fault_over}}
use Rattle.zone_spans.specs.Lines.{Line, Rulesets, is_ruled, zone_lines}
use Rattle.zone_spans.proofs.{BoundLemmas.{first, second}, FiringLemmas.{int_lt_chain, int_lt_one_way}, SoundLemmas.{neither_left, neither_right, none_at}}

first_met_more : (tests others : List (Bool × SpanFault)) (fault : SpanFault) → first_met tests ≡ Some fault
    → first_met (tests ++ others) ≡ Some fault
first_met_more [] others fault h = cc
first_met_more (t ∷ tests) others fault h =
    elim (t.0) as (λ b. cond b (Some t.1) (first_met tests) ≡ Some fault → cond b (Some t.1) (first_met (tests ++ others)) ≡ Some fault) [
      | true ↦ λ k. k
      | false ↦ λ k. first_met_more tests others fault k
    ] h

first_met_later : (tests others : List (Bool × SpanFault)) → first_met tests ≡ None → first_met (tests ++ others) ≡ first_met others
first_met_later [] others h = refl
first_met_later (t ∷ tests) others h =
    elim (t.0) as (λ b. cond b (Some t.1) (first_met tests) ≡ None → cond b (Some t.1) (first_met (tests ++ others)) ≡ first_met others) [
      | true ↦ λ k. cc
      | false ↦ λ k. first_met_later tests others k
    ] h

none_met : (t : Bool) (fault : SpanFault) (others : Option SpanFault) → cond t (Some fault) others ≡ None → (t ≡ false) × (others ≡ None)
none_met true fault others h = cc
none_met false fault others h = (refl, h)

-- a fault that is the definition's is due
is_due : (fault : SpanFault) (due : Result FixedTimespanSet SpanFault) → due ≡ Err fault → IsDue fault due
is_due NoMemory due h = tt
is_due _ due h = h

-- a ruleset that is not there is the first fault
pub unknown_due : (most : ℕ) (rulesets : Rulesets) (infos : List ZoneInfo) (fault : SpanFault) → IsUnknown fault (list_any (is_unknown rulesets) infos)
    → IsDue fault (compiled_over most rulesets infos)
unfolding compiled_over schedule_fault_over
unknown_due most rulesets infos UnknownRuleset h =
    let lines = zone_lines rulesets infos in
    let others = first_met (line_tests most infos lines ++ entry_test most lines ∷ []) in
    ap (λ b. unless (cond b (Some UnknownRuleset) others) (set_of_lines_over most lines)) h
unknown_due most rulesets infos NoMemory h = tt
unknown_due most rulesets infos _ h = absurd h

-- a zone of known rulesets has the fault of its lines, or the one of its entries
known_fault : (most : ℕ) (rulesets : Rulesets) (infos : List ZoneInfo) → list_any (is_unknown rulesets) infos ≡ false
    → (fault : SpanFault) → line_fault most infos (zone_lines rulesets infos) ≡ Some fault
    → schedule_fault_over most rulesets infos ≡ Some fault
unfolding schedule_fault_over line_fault
known_fault most rulesets infos known fault is =
    let lines = zone_lines rulesets infos in
    ap (λ b. cond b (Some UnknownRuleset) (first_met (line_tests most infos lines ++ entry_test most lines ∷ []))) known
    ∙ first_met_more (line_tests most infos lines) (entry_test most lines ∷ []) fault is

known_rest : (most : ℕ) (rulesets : Rulesets) (infos : List ZoneInfo) → list_any (is_unknown rulesets) infos ≡ false
    → line_fault most infos (zone_lines rulesets infos) ≡ None
    → schedule_fault_over most rulesets infos
    ≡ cond (begins_ruled (zone_lines rulesets infos) && not (list_any is_standard (raw_entries_over most (zone_lines rulesets infos))))
    (Some NoStandardSpan) None
unfolding schedule_fault_over line_fault
known_rest most rulesets infos known is =
    let lines = zone_lines rulesets infos in
    ap (λ b. cond b (Some UnknownRuleset) (first_met (line_tests most infos lines ++ entry_test most lines ∷ []))) known
    ∙ first_met_later (line_tests most infos lines) (entry_test most lines ∷ []) is

pub fault_due : (most : ℕ) (rulesets : Rulesets) (infos : List ZoneInfo) (lines : List Line) (fault : SpanFault)
    → lines ≡ zone_lines rulesets infos → list_any (is_unknown rulesets) infos ≡ false → line_fault most infos lines ≡ Some fault
    → IsDue fault (compiled_over most rulesets infos)
unfolding compiled_over
fault_due most rulesets infos lines fault same known is =
    is_due fault (compiled_over most rulesets infos)
    (ap (λ f. unless f (set_of_lines_over most (zone_lines rulesets infos)))
    (known_fault most rulesets infos known fault (ap (line_fault most infos) (sym same) ∙ is)))

any_put : {X : Type 0} (lt : X → X → Bool) (p : X → Bool) (x : X) (ys : List X) → list_any p (put_in lt x ys) ≡ (p x || list_any p ys)
any_put lt p x [] = refl
any_put lt p x (y ∷ ys) =
    elim (lt y x) as (λ b. list_any p (cond b (y ∷ put_in lt x ys) (x ∷ y ∷ ys)) ≡ (p x || (p y || list_any p ys))) [
      | true ↦ ap (λ b. p y || b) (any_put lt p x ys) ∙ or_turned (p y) (p x) (list_any p ys)
      | false ↦ refl
    ]

any_sorted : {X : Type 0} (lt : X → X → Bool) (p : X → Bool) (xs : List X) → list_any p (stable_sort lt xs) ≡ list_any p xs
any_sorted lt p [] = refl
any_sorted lt p (x ∷ xs) = any_put lt p x (stable_sort lt xs) ∙ ap (λ b. p x || b) (any_sorted lt p xs)

none_found : {X : Type 0} (p : X → Bool) (xs : List X) → list_any p xs ≡ false → find p xs ≡ None
none_found p [] none = refl
none_found p (x ∷ xs) none =
    elim (p x) as (λ b. (b || list_any p xs) ≡ false → cond b (Some x) (find p xs) ≡ None) [
      | true ↦ λ h. cc
      | false ↦ λ h. none_found p xs h
    ] none

is_no : (a : Bool) → IsTrue (not a) → a ≡ false
is_no true h = cc
is_no false h = refl

-- where no entry has no saving, a ruled zone has no first span
no_first : (most : ℕ) (lines : List Line) → (begins_ruled lines && not (list_any is_standard (raw_entries_over most lines))) ≡ true
    → first_span lines (sorted_entries_over most lines) ≡ None
unfolding first_span sorted_entries_over
no_first most [] h = refl
no_first most (line ∷ lines) h =
    let raw = raw_entries_over most (line ∷ lines) in
    let none = is_no (list_any is_standard raw) (second (is_ruled line.info.saving) _ h) in
    ap (λ b. cond b (option_map (λ (e : Entry). e.1) (find is_standard (stable_sort is_sooner raw))) (Some (fixed_span line)))
    (first (is_ruled line.info.saving) _ h)
    ∙ ap (option_map (λ (e : Entry). e.1)) (none_found is_standard (stable_sort is_sooner raw)
    (any_sorted is_sooner is_standard raw ∙ none))

set_due : (most : ℕ) (lines : List Line) (b : Bool) → b ≡ (begins_ruled lines && not (list_any is_standard (raw_entries_over most lines)))
    → unless (cond b (Some NoStandardSpan) None) (set_of_lines_over most lines) ≡ set_of_lines_over most lines
unfolding set_of_lines_over
set_due most lines true is = sym (ap (λ f. set_of f (sorted_entries_over most lines)) (no_first most lines (sym is)))
set_due most lines false is = refl

-- lines with no fault of their own give what is due
pub rest_due : (most : ℕ) (rulesets : Rulesets) (infos : List ZoneInfo) (lines : List Line) → lines ≡ zone_lines rulesets infos
    → list_any (is_unknown rulesets) infos ≡ false → line_fault most infos lines ≡ None
    → compiled_over most rulesets infos ≡ set_of_lines_over most lines
unfolding compiled_over
rest_due most rulesets infos lines same known is =
    ap (λ f. unless f (set_of_lines_over most (zone_lines rulesets infos)))
    (known_rest most rulesets infos known (ap (line_fault most infos) (sym same) ∙ is))
    ∙ set_due most (zone_lines rulesets infos) _ refl ∙ ap (set_of_lines_over most) (sym same)

-- bounded lines with no fault of their own are sound
pub all_sound : (most : ℕ) (infos : List ZoneInfo) (lines : List Line) → IsTrue (list_all is_bounded_line lines)
    → line_fault most infos lines ≡ None → All (IsSoundOver most) lines
unfolding line_fault leaves_year_over
all_sound most infos lines bounded is k d l =
    let later = (none_met _ MissingUntil _ is).1 in
    let year = none_met _ YearRange _ later in
    let years = none_met _ RuleYears _ year.1 in
    let days = none_met _ DayRange _ years.1 in
    record {
      bounded = AllPass-from_list_all is_bounded_line lines bounded k d l;
      year = none_at _ lines year.0 k d l;
      years = none_at _ lines years.0 k d l;
      end = neither_left _ _ (none_at _ lines days.0 k d l);
      days = neither_right _ _ (none_at _ lines days.0 k d l);
    }

sooner_ranks : IsStrictWeakOrder is_sooner
sooner_ranks = record {
  one_way = λ x y h. int_lt_one_way x.0 y.0 h;
  chain = λ x y z h k. int_lt_chain x.0 y.0 z.0 h k;
}

times_of : (es : List Entry) → Rises is_sooner es → EntryTimesDontFall es
times_of [] r = tt
times_of (a ∷ []) r = tt
times_of (a ∷ b ∷ es) r = (lt_from_fail b.0 a.0 r.0.0, times_of (b ∷ es) r.1)

-- the times of sorted entries don't fall
pub times_sorted : (most : ℕ) (lines : List Line) (es : List Entry) → es ≡ sorted_entries_over most lines → EntryTimesDontFall es
unfolding sorted_entries_over
times_sorted most lines es is =
    let raw = raw_entries_over most lines in
    subst EntryTimesDontFall (sym is) (times_of (stable_sort is_sooner raw) (Rises-stable_sort is_sooner sooner_ranks raw))
