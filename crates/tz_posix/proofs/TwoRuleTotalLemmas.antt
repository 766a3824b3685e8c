-- The total in force by a line of two yearly rules: in each year it goes by the two firings of that year.
use Rattle.std.proofs.Common.{◌≡◌, ℕ, zero, suc, ◌<◌, ◌≤◌, Bool, true, false, cond, ◌&&◌, List, [], ◌∷◌, ◌++◌, map, filter, reverse, find, Some, None, Option, Ok, ℤ, pos, ◌+ℤ◌, ◌*ℤ◌, ◌<ℤ◌, ◌≤ℤ◌, int_le, int_eq, refl, sym, ap, ◌∙◌, subst, arith, ⊎_elim}
use Rattle.std.proofs.lemmas.{Bool.{and_parts, cases_lt}, Bool.Decides.{Decides-int_eq}, List.{reverse-append}}
use Rattle.std.specs.Option.{option_map}
use Rattle.basics.specs.{Bytes.{are_same_bytes}, ComparisonLaws.{le_fail, le_pass, lt_le}}
use Rattle.civil_base.specs.Instants.{seconds_of}
use Rattle.zone_table.specs.declared.rule.RuleInfo.{RuleInfo}
use Rattle.zone_spans.specs.{Collapse.{is_same_span, collapsed, kept_of, without_first}, Compiled.{set_of, set_of_lines, set_of_lines_over}, Entries.{Entry, total, entry_of, first_span, fixed_span, is_standard, sorted_entries}, Firings.{Firing}, Lines.{Line}}
use Rattle.zone_spans.specs.{Schedules.{last_total, total_at, totals_of}, declared.span.FixedTimespan.{FixedTimespan}, declared.span.FixedTimespanSet.{FixedTimespanSet}}
use Rattle.tz_posix.{specs.TwoRules.{HasTwoRules, AreInTurn, IsInYear, first_at, saving_before, saving_in, second_at}, proofs.TwoRuleEntryLemmas.{all_kept, entries, map-reverse, sorted_is}, proofs.TwoRuleFiringLemmas.{latest}}
use Rattle.tz_lookup.specs.SecondLaws.{same_test}

-- ---- totals by the second

-- the total of the last of these entries that is not later than a second, else the one before them
abbrev total_after : ℤ → List Entry → ℤ → ℤ
total_after x [] second = x
total_after x (e ∷ es) second = total_after (cond (int_le e.0 second) (total e.1) x) es second

total_after-append : (es ds : List Entry) (x second : ℤ) → total_after x (es ++ ds) second ≡ total_after (total_after x es second) ds second
total_after-append [] ds x second = refl
total_after-append (e ∷ es) ds x second = total_after-append es ds (cond (int_le e.0 second) (total e.1) x) second

-- what a schedule has of an entry
abbrev shift_of : Entry → ℤ × ℤ
shift_of e = (e.0, total e.1)

-- those at or before an instant
abbrev shifts_due : List Entry → ℤ → List (ℤ × ℤ)
shifts_due es t = filter (λ shift. int_le (shift.0 *ℤ pos 1000000000) t) (map shift_of es)

last_is : (es : List Entry) (x t : ℤ) → last_total x (shifts_due es t) ≡ total_after x es (seconds_of t)
last_is [] x t = refl
last_is (e ∷ es) x t =
    ap (λ b. last_total x (cond b (shift_of e ∷ shifts_due es t) (shifts_due es t))) (same_test e.0 t)
    ∙ by_test (int_le e.0 (seconds_of t)) (last_is es (total e.1) t) (last_is es x t)
  where
    by_test : (b : Bool) → last_total (total e.1) (shifts_due es t) ≡ total_after (total e.1) es (seconds_of t)
        → last_total x (shifts_due es t) ≡ total_after x es (seconds_of t)
        → last_total x (cond b (shift_of e ∷ shifts_due es t) (shifts_due es t)) ≡ total_after (cond b (total e.1) x) es (seconds_of t)
    by_test true begun not_begun = begun
    by_test false begun not_begun = not_begun

total_of_set : (first : FixedTimespan) (es : List Entry) (t : ℤ)
    → total_at (totals_of (record { first = first; rest = es })) t ≡ total_after (total first) es (seconds_of t)
unfolding total_at totals_of
total_of_set first es t = last_is es (total first) t

same_total : (a b : FixedTimespan) → is_same_span a b ≡ true → total a ≡ total b
same_total a b h =
    let outer = and_parts (int_eq a.utc_offset b.utc_offset && int_eq a.dst_offset b.dst_offset) (are_same_bytes a.name b.name) h in
    let inner = and_parts (int_eq a.utc_offset b.utc_offset) (int_eq a.dst_offset b.dst_offset) outer.0 in
    let utc = (Decides-int_eq a.utc_offset b.utc_offset).0 inner.0 in
    let dst = (Decides-int_eq a.dst_offset b.dst_offset).0 inner.1 in
    λ i. utc i +ℤ dst i

either_way : (b : Bool) (x y : ℤ) → y ≡ x → cond b y x ≡ x
either_way true x y h = h
either_way false x y h = refl

-- to drop the first entry where it repeats the first span changes no total
total_without_first : (first : FixedTimespan) (es : List Entry) (second : ℤ)
    → total_after (total first) (without_first first es) second ≡ total_after (total first) es second
unfolding without_first
total_without_first first [] second = refl
total_without_first first (e ∷ es) second = by_test (is_same_span e.1 first) refl
  where
    by_test : (b : Bool) → is_same_span e.1 first ≡ b
        → total_after (total first) (cond b es (e ∷ es)) second ≡ total_after (total first) (e ∷ es) second
    by_test true same =
        ap (λ x. total_after x es second) (sym (either_way (int_le e.0 second) (total first) (total e.1) (same_total e.1 first same)))
    by_test false other = refl

-- ---- the years

-- of totals at one offset, the saving of the one that is chosen
chosen : (b c : Bool) (o p q x r : ℤ) → x ≡ o +ℤ r → cond b (o +ℤ p) (cond c (o +ℤ q) x) ≡ o +ℤ cond b p (cond c q r)
chosen true c o p q x r h = refl
chosen false true o p q x r h = refl
chosen false false o p q x r h = h

module _ (line : Line) (f g : RuleInfo) (m n : ℕ) (turns : AreInTurn line.info.offset f g m n) (first : FixedTimespan) (second : ℤ) (starts : total first ≡ line.info.offset +ℤ pos 0) where
  abbrev offset : ℤ
  offset = line.info.offset

  -- the total after the first k years
  abbrev now : ℕ → ℤ
  now k = total_after (total first) (reverse (entries line f g m k)) second

  abbrev first_time : ℕ → ℤ
  first_time k = (first_at offset f g m k).time

  abbrev second_time : ℕ → ℤ
  second_time k = (second_at offset f g m k).time

  one_year : (k : ℕ) → now (suc k)
      ≡ cond (int_le (second_time k) second) (offset +ℤ g.time_to_add) (cond (int_le (first_time k) second) (offset +ℤ f.time_to_add) (now k))
  one_year k =
      ap (λ es. total_after (total first) es second)
      (reverse-append (entry_of line (second_at offset f g m k) ∷ entry_of line (first_at offset f g m k) ∷ []) (entries line f g m k))
      ∙ total_after-append (reverse (entries line f g m k))
      (entry_of line (first_at offset f g m k) ∷ entry_of line (second_at offset f g m k) ∷ []) (total first) second

  before_year : (i : ℕ) → ((j : ℕ) → suc j ≡ i → second_time j ≤ℤ second) → now i ≡ offset +ℤ saving_before offset f g m i
  before_year zero past = starts
  before_year (suc j) past =
      one_year j
      ∙ ap (λ b. cond b (offset +ℤ g.time_to_add) (cond (int_le (first_time j) second) (offset +ℤ f.time_to_add) (now j)))
      (le_pass _ second (past j refl))

  year_done : (i : ℕ) → ((j : ℕ) → suc j ≡ i → second_time j ≤ℤ second) → now (suc i) ≡ offset +ℤ saving_in offset f g m i second
  year_done i past =
      one_year i ∙ chosen (int_le (second_time i) second) (int_le (first_time i) second) offset _ _ (now i) _ (before_year i past)

  -- a year that has not begun changes nothing
  year_skipped : (k : ℕ) → k < n → second <ℤ first_time k → now (suc k) ≡ now k
  year_skipped k l b =
      one_year k
      ∙ (λ i. cond (le_fail _ second (lt_le _ _ _ b (turns.rise k l)) i) (offset +ℤ g.time_to_add)
      (cond (le_fail _ second b i) (offset +ℤ f.time_to_add) (now k)))

  total_in_year : (i k : ℕ) → i < k → k ≤ n → IsInYear offset f g m n i second → now k ≡ offset +ℤ saving_in offset f g m i second
  total_in_year i zero l b y = absurd (omega arith)
  total_in_year i (suc k) l b y = ⊎_elim
      (λ (w : i < k). year_skipped k b (y.to_come k w b) ∙ total_in_year i k w (omega arith) y)
      (λ (w : k ≤ i). let same : i ≡ k = omega (arith, l, w) in
      subst (λ j. now (suc j) ≡ offset +ℤ saving_in offset f g m i second) same (year_done i y.past))
      (cases_lt i k)

-- ---- the set

-- the first span is at the line's offset with no saving
found : (line : Line) (fs : List Firing) (first : FixedTimespan)
    → option_map (λ (e : Entry). e.1) (find is_standard (map (entry_of line) fs)) ≡ Some first → total first ≡ line.info.offset +ℤ pos 0
found line [] first h = cc
found line (x ∷ fs) first h = by_test (int_eq x.rule.time_to_add (pos 0)) refl h (λ e. found line fs first e)
  where
    by_test : (b : Bool) → int_eq x.rule.time_to_add (pos 0) ≡ b
        → option_map (λ (e : Entry). e.1) (cond b (Some (entry_of line x)) (find is_standard (map (entry_of line) fs))) ≡ Some first
        → (option_map (λ (e : Entry). e.1) (find is_standard (map (entry_of line) fs)) ≡ Some first
        → total first ≡ line.info.offset +ℤ pos 0)
        → total first ≡ line.info.offset +ℤ pos 0
    by_test true z e others =
        let is : (entry_of line x).1 ≡ first = cc in
        ap total (sym is) ∙ ap (λ s. line.info.offset +ℤ s) ((Decides-int_eq x.rule.time_to_add (pos 0)).0 z)
    by_test false z e others = others e

module _ (line : Line) (f g : RuleInfo) (m n : ℕ) (has : HasTwoRules line f g m n) (turns : AreInTurn line.info.offset f g m n) where
  abbrev sorted : List Entry
  sorted = sorted_entries (line ∷ [])

  collapsed_is : (first : FixedTimespan) → collapsed first sorted ≡ without_first first (reverse (entries line f g m n))
  unfolding collapsed
  collapsed_is first =
      (λ i. without_first first (reverse (kept_of [] (sorted_is line f g m n has turns i))))
      ∙ ap (λ ks. without_first first (reverse ks)) (all_kept line f g m n has turns)

  starts_standard : (first : FixedTimespan) → first_span (line ∷ []) sorted ≡ Some first → total first ≡ line.info.offset +ℤ pos 0
  unfolding first_span
  starts_standard first h =
      found line (reverse (latest line.info.offset f g m n)) first
      (ap (λ es. option_map (λ (e : Entry). e.1) (find is_standard es))
      (map-reverse line (latest line.info.offset f g m n) ∙ sym (sorted_is line f g m n has turns))
      ∙ sym (ap (λ b. cond b (option_map (λ (e : Entry). e.1) (find is_standard sorted)) (Some (fixed_span line))) has.ruled) ∙ h)

  -- in each year the total is the offset and the saving that the two firings of the year leave
  pub two_rules_total : (set : FixedTimespanSet) → set_of_lines (line ∷ []) ≡ Ok set → (t : ℤ) (i : ℕ) → i < n
      → IsInYear line.info.offset f g m n i (seconds_of t)
      → total_at (totals_of set) t ≡ line.info.offset +ℤ saving_in line.info.offset f g m i (seconds_of t)
  unfolding set_of_lines_over
  two_rules_total set is t i l inside = by_first (first_span (line ∷ []) sorted) refl is
    where
      by_first : (o : Option FixedTimespan) → first_span (line ∷ []) sorted ≡ o → set_of o sorted ≡ Ok set
          → total_at (totals_of set) t ≡ line.info.offset +ℤ saving_in line.info.offset f g m i (seconds_of t)
      by_first None e h = cc
      by_first (Some first) e h =
          let this : record { first = first; rest = collapsed first sorted } ≡ set = cc in
          ap (λ s. total_at (totals_of s) t) (sym this)
          ∙ total_of_set first (collapsed first sorted) t
          ∙ ap (λ es. total_after (total first) es (seconds_of t)) (collapsed_is first)
          ∙ total_without_first first (reverse (entries line f g m n)) (seconds_of t)
          ∙ total_in_year line f g m n turns first (seconds_of t) (starts_standard first e) i n l (omega arith) inside
