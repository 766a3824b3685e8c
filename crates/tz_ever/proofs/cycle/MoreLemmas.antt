-- A zone's spans over more years than 300: no fault comes, the first span stays, and entries come behind those that stand.
use Rattle.std.proofs.Common.{◌≡◌, List, [], ◌∷◌, Some, None, ℤ, pos, refl, ℕ, zero, suc, Bool, ap, ◌∙◌, arith, ◌+◌, ◌≤◌, true, false, ◌++◌, sym, append-nil, inl, inr, not, ◌&&◌, ◌||◌, if◌then◌else◌, find, option_map, Option, subst, is_none, Result, Ok, ◌⊎◌}
use Rattle.std.proofs.lemmas.{Bool.{cases_Bool, and_parts}, List.Folds.{find-append, list_any-append}}
use Rattle.std.specs.{List.{list_any}, Option.{option_or, option_map_or}}
use Rattle.basics.specs.Sorted.{stable_sort}
use Rattle.zone_table.specs.declared.{rule.RuleInfo.{RuleInfo}, zone.ZoneInfo.{ZoneInfo}}
use Rattle.zone_spans.specs.{Collapse.{collapsed}, Compiled.{compiled, set_of, unless, compiled_over, set_of_lines_over}, Entries.{is_sooner, Entry, first_span, fixed_span, is_standard, entries_from_over, sorted_entries_over}}
use Rattle.zone_spans.specs.{Faults.{is_outside, some_year, all_but_last, begins_ruled, ends_in_no_year, ends_outside, first_met, is_unknown, lacks_years, leaves_year_over, schedule_fault_over}, Firings.{years_over}}
use Rattle.zone_spans.specs.{Lines.{Line, is_ruled, Rulesets, zone_lines}, Years.{earliest_year}, declared.fault.SpanFault.{SpanFault}, declared.fault.SpanFault.TheVariants.{UnknownRuleset, MissingUntil, YearRange, RuleYears, DayRange, NoStandardSpan}}
use Rattle.zone_spans.specs.{declared.span.FixedTimespan.{FixedTimespan}, declared.span.FixedTimespanSet.{FixedTimespanSet}, GoesOn.{GoesOn, front_of, goes_on, is_still, last_goes_on, last_of, some_leaves, turns}}
use Rattle.zone_spans.specs.{Later.{begun_entries, later_entries, listed_entries, start_after}, Settled.{are_settled, is_settled}, LaterLaws.{EndsByThen, years_over-ended}}
use Rattle.tz_ever.proofs.cycle.{EverLemmas.{adds_behind}, FaultLemmas.{or_right, outside-more}, FitLemmas.{or_first, or_second}, GoingLemmas.{IsGoing, IsTurned, going_of, turned_of}, QuietLemmas.{entries_from_over-still}, TestLemmas.{is_split}}
use Rattle.tz_ever.proofs.cycle.ZoneLemmas.{AllEnd, entries_from_over-first, entries_from_over-more, sorted_entries_over-more}

-- what stands before 2100 stays, and entries come behind it
pub record Extends (front : List Line) (last : Line) (k : ℕ) : Type 0 where
  pub listed : List Entry
  pub more : List Entry
  pub begun : List Entry
  pub raw : entries_from_over 300 None (front ++ (last ∷ [])) ≡ listed ++ begun
  pub raw_more : entries_from_over (k + 300) None (front ++ (last ∷ [])) ≡ listed ++ (more ++ begun)
  pub sorted : sorted_entries_over (k + 300) (front ++ (last ∷ [])) ≡ sorted_entries_over 300 (front ++ (last ∷ [])) ++ more

pub sorted_entries_over-still : (front : List Line) (last : Line) (k : ℕ) → IsGoing front last → is_still last ≡ true
    → sorted_entries_over (k + 300) (front ++ (last ∷ [])) ≡ sorted_entries_over 300 (front ++ (last ∷ []))
unfolding sorted_entries_over
sorted_entries_over-still front last k going still =
    ap (stable_sort is_sooner) (entries_from_over-still front last 300 k (omega arith) going.ended going.endless going.settled still)

pub extends-still : (front : List Line) (last : Line) (k : ℕ) → IsGoing front last → is_still last ≡ true → Extends front last k
extends-still front last k going still =
    let es = entries_from_over 300 None (front ++ (last ∷ [])) in
    let same = entries_from_over-still front last 300 k (omega arith) going.ended going.endless going.settled still in
    record {
      listed = es;
      more = [];
      begun = [];
      raw = sym (append-nil es);
      raw_more = same ∙ sym (append-nil es);
      sorted = sorted_entries_over-still front last k going still ∙ sym (append-nil (sorted_entries_over 300 (front ++ (last ∷ []))));
    }

pub extends-turned : (front : List Line) (last : Line) (k : ℕ) → IsTurned front last → Extends front last k
extends-turned front last k turned =
    let tested = turned.turn.tested in
    let on = adds_behind front last 300 tested in
    record {
      listed = entries_from_over 300 None front ++ listed_entries last (start_after None front) 300;
      more = later_entries last 300 k;
      begun = begun_entries last (start_after None front) 300;
      raw = entries_from_over-first front last 300 tested.late tested.ended tested.endless;
      raw_more = entries_from_over-more front last 300 k on;
      sorted = sorted_entries_over-more front last 300 k on;
    }

-- by kind
pub by_kind : (front : List Line) (last : Line) (going : IsGoing front last) → (is_still last ≡ true) ⊎ IsTurned front last
by_kind front last going =
    elim (cases_Bool (is_still last)) [
      | inl still ↦ inl still
      | inr moving ↦ inr (turned_of front last going moving (or_other (is_still last) (turns front last) moving going.kind))
    ]
  where
    or_other : (a b : Bool) → a ≡ false → a || b ≡ true → b ≡ true
    or_other true b h k = absurd cc
    or_other false b h k = k

pub extends : (front : List Line) (last : Line) (k : ℕ) → IsGoing front last → Extends front last k
extends front last k going =
    elim (by_kind front last going) [
      | inl still ↦ extends-still front last k going still
      | inr turned ↦ extends-turned front last k turned
    ]

-- ---- days
some_year-fewer : (test : ℤ → Bool) (m n : ℕ) → some_year test (m + n) ≡ false → some_year test n ≡ false
unfolding some_year
some_year-fewer test zero n h = let same : 0 + n ≡ n = omega arith in sym (ap (some_year test) same) ∙ h
some_year-fewer test (suc m) n h =
    let next : suc m + n ≡ suc (m + n) = omega arith in
    some_year-fewer test m n (or_first (some_year test (m + n)) (test (pos (earliest_year + (m + n)))) (sym (ap (some_year test) next) ∙ h))

never_leaves : (r : RuleInfo) (n : ℕ) → is_settled r ≡ true → some_year (is_outside r) 700 ≡ false → some_year (is_outside r) n ≡ false
never_leaves r n settled none =
    let same : 700 + n ≡ n + 700 = omega arith in
    some_year-fewer (is_outside r) 700 n (ap (some_year (is_outside r)) same ∙ outside-more r n settled ∙ none)

none_leaves : (rules : List RuleInfo) (n : ℕ) → are_settled rules ≡ true → some_leaves rules ≡ false
    → list_any (λ (r : RuleInfo). some_year (is_outside r) n) rules ≡ false
none_leaves [] n settled none = refl
none_leaves (r ∷ rs) n settled none =
    let both = and_parts (is_settled r) (are_settled rs) settled in
    let here = never_leaves r n both.0 (or_first (some_year (is_outside r) 700) (some_leaves rs) none) in
    let others = none_leaves rs n both.1 (or_second (some_year (is_outside r) 700) (some_leaves rs) none) in
    rw here others

last_stays : (last : Line) (n : ℕ) → last.end ≡ None → are_settled last.rules ≡ true → some_leaves last.rules ≡ false
    → leaves_year_over n last ≡ false
unfolding leaves_year_over years_over
last_stays last n endless settled none = rw endless (none_leaves last.rules n settled none)

leaves-ended : (n : ℕ) (line : Line) → 300 ≤ n → EndsByThen line.end → leaves_year_over n line ≡ leaves_year_over 300 line
unfolding leaves_year_over
leaves-ended n line late ended =
    ap (λ years. option_map_or ends_outside line.end false || list_any (λ (r : RuleInfo). some_year (is_outside r) years) line.rules)
    (years_over-ended n line.end late ended)

front_leaves : (n : ℕ) (lines : List Line) → 300 ≤ n → AllEnd lines
    → list_any (leaves_year_over n) lines ≡ list_any (leaves_year_over 300) lines
front_leaves n [] late all = refl
front_leaves n (line ∷ lines) late all = rw (leaves-ended n line late all.0, front_leaves n lines late all.1)

leaves-more : (front : List Line) (last : Line) (n : ℕ) → 300 ≤ n → IsGoing front last
    → list_any (leaves_year_over n) (front ++ (last ∷ [])) ≡ list_any (leaves_year_over 300) (front ++ (last ∷ []))
leaves-more front last n late going =
    let here = last_stays last n going.endless going.settled going.stays in
    let there = last_stays last 300 going.endless going.settled going.stays in
    list_any-append (leaves_year_over n) front (last ∷ [])
    ∙ (λ i. front_leaves n front late going.ended i || (here i || false))
    ∙ sym (list_any-append (leaves_year_over 300) front (last ∷ []) ∙ ap (λ b. list_any (leaves_year_over 300) front || (b || false)) there)

-- ---- an entry without a saving
any_behind : {X : Type 0} (test : X → Bool) (gs ys : List X) → list_any test ys ≡ true → list_any test (gs ++ ys) ≡ true
any_behind test [] ys h = h
any_behind test (g ∷ gs) ys h = or_right (test g) (list_any test (gs ++ ys)) (any_behind test gs ys h)

any_more : {X : Type 0} (test : X → Bool) (xs gs ys : List X) → list_any test (xs ++ ys) ≡ true → list_any test (xs ++ (gs ++ ys)) ≡ true
any_more test [] gs ys h = any_behind test gs ys h
any_more test (x ∷ xs) gs ys h =
    elim (test x) as (λ b. b || list_any test (xs ++ ys) ≡ true → b || list_any test (xs ++ (gs ++ ys)) ≡ true) [
      | true ↦ λ is. refl
      | false ↦ λ is. any_more test xs gs ys is
    ] h

lacks_by : (begun some more : Bool) → (some ≡ true → more ≡ true) → begun && not some ≡ false → begun && not more ≡ false
lacks_by false some more kept h = refl
lacks_by true true more kept h = rw (kept refl)
lacks_by true false more kept h = absurd cc

-- ---- no fault comes
met_step : (a : Bool) (fault : SpanFault) (others more : List (Bool × SpanFault)) → (first_met others ≡ None → first_met more ≡ None)
    → first_met ((a, fault) ∷ others) ≡ None → first_met ((a, fault) ∷ more) ≡ None
met_step true fault others more next h = absurd cc
met_step false fault others more next h = next h

met_last : (e e_more f f_more : Bool) → e_more ≡ e → (f ≡ false → f_more ≡ false)
    → first_met ((e, DayRange) ∷ (f, NoStandardSpan) ∷ []) ≡ None → first_met ((e_more, DayRange) ∷ (f_more, NoStandardSpan) ∷ []) ≡ None
met_last true e_more f f_more same next h = absurd cc
met_last false e_more true f_more same next h = absurd cc
met_last false e_more false f_more same next h = rw (same, next refl)

faults_by : (a b c d e e_more f f_more : Bool) → e_more ≡ e → (f ≡ false → f_more ≡ false)
    → first_met ((a, UnknownRuleset) ∷ (b, MissingUntil) ∷ (c, YearRange) ∷ (d, RuleYears) ∷ (e, DayRange) ∷ (f, NoStandardSpan) ∷ []) ≡ None
    → first_met ((a, UnknownRuleset) ∷ (b, MissingUntil) ∷ (c, YearRange) ∷ (d, RuleYears) ∷ (e_more, DayRange) ∷ (f_more, NoStandardSpan) ∷ [])
    ≡ None
faults_by a b c d e e_more f f_more same next =
    let last = (e, DayRange) ∷ (f, NoStandardSpan) ∷ [] in
    let last_more = (e_more, DayRange) ∷ (f_more, NoStandardSpan) ∷ [] in
    met_step a UnknownRuleset ((b, MissingUntil) ∷ (c, YearRange) ∷ (d, RuleYears) ∷ last)
    ((b, MissingUntil) ∷ (c, YearRange) ∷ (d, RuleYears) ∷ last_more)
    (met_step b MissingUntil ((c, YearRange) ∷ (d, RuleYears) ∷ last) ((c, YearRange) ∷ (d, RuleYears) ∷ last_more)
    (met_step c YearRange ((d, RuleYears) ∷ last) ((d, RuleYears) ∷ last_more)
    (met_step d RuleYears last last_more (met_last e e_more f f_more same next))))

lacks-more : (front : List Line) (last : Line) (k : ℕ) → Extends front last k
    → begins_ruled (front ++ (last ∷ [])) && not (list_any is_standard (entries_from_over 300 None (front ++ (last ∷ [])))) ≡ false
    → begins_ruled (front ++ (last ∷ [])) && not (list_any is_standard (entries_from_over (k + 300) None (front ++ (last ∷ [])))) ≡ false
lacks-more front last k ext h =
    let zone = front ++ (last ∷ []) in
    lacks_by (begins_ruled zone) (list_any is_standard (entries_from_over 300 None zone))
    (list_any is_standard (entries_from_over (k + 300) None zone))
    (λ some. ap (list_any is_standard) ext.raw_more
    ∙ any_more is_standard ext.listed ext.more ext.begun (sym (ap (list_any is_standard) ext.raw) ∙ some)) h

pub no_fault-more : (rulesets : Rulesets) (infos : List ZoneInfo) (front : List Line) (last : Line) (k : ℕ)
    → zone_lines rulesets infos ≡ front ++ (last ∷ []) → IsGoing front last → Extends front last k
    → schedule_fault_over 300 rulesets infos ≡ None → schedule_fault_over (k + 300) rulesets infos ≡ None
unfolding schedule_fault_over
no_fault-more rulesets infos front last k is going ext =
    let lines = zone_lines rulesets infos in
    let late : 300 ≤ k + 300 = omega arith in
    faults_by (list_any (is_unknown rulesets) infos) (list_any (λ (info : ZoneInfo). is_none info.end_time) (all_but_last infos))
    (list_any ends_in_no_year lines) (list_any lacks_years lines)
    (list_any (leaves_year_over 300) lines) (list_any (leaves_year_over (k + 300)) lines)
    (begins_ruled lines && not (list_any is_standard (entries_from_over 300 None lines)))
    (begins_ruled lines && not (list_any is_standard (entries_from_over (k + 300) None lines)))
    (subst (λ l. list_any (leaves_year_over (k + 300)) l ≡ list_any (leaves_year_over 300) l) (sym is)
    (leaves-more front last (k + 300) late going))
    (subst (λ l. begins_ruled l && not (list_any is_standard (entries_from_over 300 None l)) ≡ false
    → begins_ruled l && not (list_any is_standard (entries_from_over (k + 300) None l)) ≡ false) (sym is) (lacks-more front last k ext))

-- ---- the set
kept_found : {X : Type 0} (o p : Option Entry) (f : Entry → X) (x : X) → option_map f o ≡ Some x → option_map f (option_or o p) ≡ Some x
kept_found None p f x h = absurd cc
kept_found (Some e) p f x h = h

first_by : (ruled : Bool) (line : Line) (es gs : List Entry) (first : FixedTimespan)
    → (if ruled then option_map (λ (e : Entry). e.1) (find is_standard es) else Some (fixed_span line)) ≡ Some first
    → (if ruled then option_map (λ (e : Entry). e.1) (find is_standard (es ++ gs)) else Some (fixed_span line)) ≡ Some first
first_by true line es gs first h =
    ap (option_map (λ (e : Entry). e.1)) (find-append is_standard es gs)
    ∙ kept_found (find is_standard es) (find is_standard gs) (λ (e : Entry). e.1) first h
first_by false line es gs first h = h

first_more : (lines : List Line) (es gs : List Entry) (first : FixedTimespan) → first_span lines es ≡ Some first
    → first_span lines (es ++ gs) ≡ Some first
unfolding first_span
first_more [] es gs first h = absurd cc
first_more (line ∷ lines) es gs first h = first_by (is_ruled line.info.saving) line es gs first h

unless_ok : (fault : Option SpanFault) (due : Result FixedTimespanSet SpanFault) (set : FixedTimespanSet) → unless fault due ≡ Ok set
    → (fault ≡ None) × (due ≡ Ok set)
unless_ok (Some fault) due set h = absurd cc
unless_ok None due set h = (refl, h)

-- the spans of a zone with that first span
abbrev pub set_over : FixedTimespan → ℕ → List Line → FixedTimespanSet
set_over first n lines = record { first = first; rest = collapsed first (sorted_entries_over n lines) }

set_given : (o : Option FixedTimespan) (es : List Entry) (set : FixedTimespanSet) → set_of o es ≡ Ok set
    → (o ≡ Some set.first) × (set ≡ record { first = set.first; rest = collapsed set.first es })
set_given None es set h = absurd cc
set_given (Some first) es set h =
    let is : record { first = first; rest = collapsed first es } ≡ set = cc in
    let same : first ≡ set.first = ap (λ (s : FixedTimespanSet). s.first) is in
    (λ i. Some (same i), sym is ∙ (λ i. record { first = same i; rest = collapsed (same i) es }))

pub record HasSet (rulesets : Rulesets) (infos : List ZoneInfo) (set : FixedTimespanSet) : Type 0 where
  pub front : List Line
  pub last : Line
  pub last_is : last_of (zone_lines rulesets infos) ≡ Some last
  pub lines : zone_lines rulesets infos ≡ front ++ (last ∷ [])
  pub going : IsGoing front last
  pub first : FixedTimespan
  pub set_is : set ≡ set_over first 300 (front ++ (last ∷ []))
  pub more : (k : ℕ) → compiled_over (k + 300) rulesets infos ≡ Ok (set_over first (k + 300) (front ++ (last ∷ [])))

set_more : (rulesets : Rulesets) (infos : List ZoneInfo) (front : List Line) (last : Line) (k : ℕ) (first : FixedTimespan)
    → zone_lines rulesets infos ≡ front ++ (last ∷ []) → Extends front last k
    → first_span (front ++ (last ∷ [])) (sorted_entries_over 300 (front ++ (last ∷ []))) ≡ Some first
    → set_of_lines_over (k + 300) (zone_lines rulesets infos) ≡ Ok (set_over first (k + 300) (front ++ (last ∷ [])))
unfolding set_of_lines_over
set_more rulesets infos front last k first is ext given =
    let zone = front ++ (last ∷ []) in
    let es = sorted_entries_over (k + 300) zone in
    ap (λ l. set_of (first_span l (sorted_entries_over (k + 300) l)) (sorted_entries_over (k + 300) l)) is
    ∙ ap (λ o. set_of o es) (ap (first_span zone) ext.sorted ∙ first_more zone (sorted_entries_over 300 zone) ext.more first given)

pub has_set : (rulesets : Rulesets) (infos : List ZoneInfo) (set : FixedTimespanSet) (front : List Line) (last : Line)
    → last_of (zone_lines rulesets infos) ≡ Some last → zone_lines rulesets infos ≡ front ++ (last ∷ []) → IsGoing front last
    → compiled rulesets infos ≡ Ok set → HasSet rulesets infos set
unfolding compiled_over set_of_lines_over
has_set rulesets infos set front last last_is is going ok =
    let zone = front ++ (last ∷ []) in
    let both = unless_ok (schedule_fault_over 300 rulesets infos) (set_of_lines_over 300 (zone_lines rulesets infos)) set ok in
    let here : set_of (first_span zone (sorted_entries_over 300 zone)) (sorted_entries_over 300 zone) ≡ Ok set =
    sym (ap (λ l. set_of (first_span l (sorted_entries_over 300 l)) (sorted_entries_over 300 l)) is) ∙ both.1 in
    let given = set_given (first_span zone (sorted_entries_over 300 zone)) (sorted_entries_over 300 zone) set here in
    record {
      front = front;
      last = last;
      last_is = last_is;
      lines = is;
      going = going;
      first = set.first;
      set_is = given.1;
      more = λ k. (λ i. unless (no_fault-more rulesets infos front last k is going (extends front last k going) both.0 i)
          (set_more rulesets infos front last k set.first is (extends front last k going) given.0 i));
    }

-- of a zone that goes on and has a schedule
pub set_of_going : (rulesets : Rulesets) (infos : List ZoneInfo) (set : FixedTimespanSet) → GoesOn rulesets infos
    → compiled rulesets infos ≡ Ok set → HasSet rulesets infos set
unfolding goes_on
set_of_going rulesets infos set on ok = by_last (last_of lines) refl on
  where
    lines : List Line
    lines = zone_lines rulesets infos

    by_last : (o : Option Line) → last_of lines ≡ o → option_map_or (last_goes_on (front_of lines)) o false ≡ true → HasSet rulesets infos set
    by_last None is h = absurd cc
    by_last (Some last) is h = has_set rulesets infos set (front_of lines) last is (is_split lines last is) (going_of (front_of lines) last h) ok
