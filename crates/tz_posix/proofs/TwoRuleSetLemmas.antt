-- A line of two yearly rules, of which one has no saving, has a set of spans.
use Rattle.std.proofs.{Common.{◌≡◌, ℕ, zero, suc, ◌+◌, ◌<◌, ◌⊎◌, ⊎_elim, Bool, true, false, cond, not, ◌&&◌, ◌||◌, List, [], ◌∷◌, reverse, find, Some, None, Ok, refl, ap, ◌∙◌, arith, ℤ, pos, int_eq}, lemmas.List.{reverse-append}}
use Rattle.std.proofs.lemmas.{List.Folds.{list_any-append}, Bool.{or_right}}
use Rattle.std.specs.{List.{list_any, list_all}, Option.{option_map}}
use Rattle.zone_table.specs.{Moments.{has_years}, declared.rule.RuleInfo.{RuleInfo}, declared.zone.ZoneInfo.{ZoneInfo}}
use Rattle.zone_spans.specs.{Collapse.{collapsed}, Compiled.{compiled, compiled_over, set_of, set_of_lines, set_of_lines_over, unless}, Entries.{Entry, first_span, fixed_span, is_standard, raw_entries, sorted_entries}}
use Rattle.zone_spans.specs.{Faults.{schedule_fault, schedule_fault_over, first_met, is_outside, leaves_year_over, some_year}, Firings.{years_over}, Lines.{Line, Rulesets, is_known, is_ruled, rules_named, zone_lines}}
use Rattle.zone_spans.specs.declared.{fault.SpanFault.TheVariants.{UnknownRuleset, MissingUntil, YearRange, RuleYears, DayRange, NoStandardSpan}, span.FixedTimespanSet.{FixedTimespanSet}}
use Rattle.tz_posix.{specs.TwoRules.{AreInTurn, HasTwoRules, IsCompiled}, proofs.TwoRuleEntryLemmas.{first_entry, second_entry, entries, raw_is_entries, sorted_is}}

-- the years of the rule can be compared, and its day lies in each year that is expanded
pub record IsExpandable (rule : RuleInfo) : Type 0 where
  pub years : has_years rule ≡ true
  pub inside : (i : ℕ) → i < 300 → is_outside rule (pos (1800 + i)) ≡ false

no_year : (test : ℤ → Bool) (n : ℕ) → ((i : ℕ) → i < n → test (pos (1800 + i)) ≡ false) → some_year test n ≡ false
unfolding some_year
no_year test zero none = refl
no_year test (suc n) none =
    let before = no_year test n (λ i l. none i (omega (arith, l))) in
    (λ k. before k || test (pos (1800 + n))) ∙ none n (omega arith)

-- where some entry passes, one is found
pub record IsFound (test : Entry → Bool) (es : List Entry) : Type 0 where
  pub entry : Entry
  pub is : find test es ≡ Some entry

some_found : (test : Entry → Bool) (es : List Entry) → list_any test es ≡ true → IsFound test es
some_found test [] h = cc
some_found test (e ∷ es) h = by_test (test e) refl h (λ others. some_found test es others)
  where
    by_test : (b : Bool) → test e ≡ b → (b || list_any test es) ≡ true → (list_any test es ≡ true → IsFound test es)
        → IsFound test (e ∷ es)
    by_test true passes h others = record { entry = e; is = ap (λ b. cond b (Some e) (find test es)) passes }
    by_test false fails h others =
        let later = others h in
        record { entry = later.entry; is = ap (λ b. cond b (Some e) (find test es)) fails ∙ later.is }

module _ (line : Line) (f g : RuleInfo) (m n : ℕ) (has : HasTwoRules line f g m n) (turns : AreInTurn line.info.offset f g m n) (some : 0 < n) (standard : (f.time_to_add ≡ pos 0) ⊎ (g.time_to_add ≡ pos 0)) where
  one_standard : (k : ℕ) → list_any is_standard (first_entry line f g m k ∷ second_entry line f g m k ∷ []) ≡ true
  one_standard k = ⊎_elim
      (λ h. ap (λ s. int_eq s (pos 0) || (int_eq g.time_to_add (pos 0) || false)) h)
      (λ h. ap (λ s. int_eq f.time_to_add (pos 0) || (int_eq s (pos 0) || false)) h ∙ or_right (int_eq f.time_to_add (pos 0)) true refl)
      standard

  some_standard : (k : ℕ) → 0 < k → list_any is_standard (reverse (entries line f g m k)) ≡ true
  some_standard zero l = absurd (omega (arith, l))
  some_standard (suc k) l =
      ap (list_any is_standard) (reverse-append (second_entry line f g m k ∷ first_entry line f g m k ∷ []) (entries line f g m k))
      ∙ list_any-append is_standard (reverse (entries line f g m k)) (first_entry line f g m k ∷ second_entry line f g m k ∷ [])
      ∙ or_right (list_any is_standard (reverse (entries line f g m k))) _ (one_standard k)

  raw_standard : list_any is_standard (raw_entries (line ∷ [])) ≡ true
  raw_standard = ap (list_any is_standard) (raw_is_entries line f g m n has turns) ∙ some_standard n some

  pub has_set : (set : FixedTimespanSet) × (set_of_lines (line ∷ []) ≡ Ok set)
  unfolding set_of_lines_over first_span
  has_set =
      let sorted = sorted_entries (line ∷ []) in
      let found = some_found is_standard sorted (ap (list_any is_standard) (sorted_is line f g m n has turns) ∙ some_standard n some) in (
        record { first = found.entry.1; rest = collapsed found.entry.1 sorted },
        ap (λ b. set_of (cond b (option_map (λ (e : Entry). e.1) (find is_standard sorted)) (Some (fixed_span line))) sorted) has.ruled
            ∙ ap (λ o. set_of (option_map (λ (e : Entry). e.1) o) sorted) found.is,
      )

  all_years : (test : RuleInfo → Bool) → test f ≡ true → test g ≡ true → list_all test line.rules ≡ true
  all_years test a b = ⊎_elim
      (λ e. ap (list_all test) e ∙ (λ i. a i && (b i && true)))
      (λ e. ap (list_all test) e ∙ (λ i. b i && (a i && true)))
      has.both

  no_rule : (test : RuleInfo → Bool) → test f ≡ false → test g ≡ false → list_any test line.rules ≡ false
  no_rule test a b = ⊎_elim
      (λ e. ap (list_any test) e ∙ (λ i. a i || (b i || false)))
      (λ e. ap (list_any test) e ∙ (λ i. b i || (a i || false)))
      has.both

-- no test of a fault is met
no_fault : (a b c d e : Bool) → a ≡ false → b ≡ false → c ≡ false → d ≡ false → e ≡ false
    → first_met ((a, UnknownRuleset) ∷ (false, MissingUntil) ∷ (b, YearRange) ∷ (c, RuleYears) ∷ (d, DayRange) ∷ (e, NoStandardSpan) ∷ [])
    ≡ None
no_fault a b c d e h i j k l =
    λ t. first_met ((h t, UnknownRuleset) ∷ (false, MissingUntil) ∷ (i t, YearRange) ∷ (j t, RuleYears) ∷ (k t, DayRange) ∷ (l t, NoStandardSpan) ∷ [])

module _ (rulesets : Rulesets) (info : ZoneInfo) (f g : RuleInfo) (m n : ℕ) where
  abbrev only : Line
  only = record { info = info; rules = rules_named rulesets info.saving; end = None }

  -- a zone of this line alone is compiled
  pub two_rules_compile : HasTwoRules only f g m n → AreInTurn info.offset f g m n → 0 < n
      → (f.time_to_add ≡ pos 0) ⊎ (g.time_to_add ≡ pos 0) → is_known rulesets info.saving ≡ true
      → IsExpandable f → IsExpandable g → IsCompiled rulesets (info ∷ [])
  unfolding compiled_over schedule_fault_over zone_lines leaves_year_over years_over
  two_rules_compile has turns some standard known a b =
      let set = has_set only f g m n has turns some standard in
      let outside = λ (r : RuleInfo). some_year (is_outside r) 300 in
      let none : schedule_fault rulesets (info ∷ []) ≡ None = no_fault _ _ _ _ _
      (ap (λ k. not k || false) known)
      refl
      (ap (λ k. not k || false) (all_years only f g m n has turns some standard has_years a.years b.years))
      (ap (λ k. k || false) (no_rule only f g m n has turns some standard outside (no_year _ 300 a.inside) (no_year _ 300 b.inside)))
      (ap (λ k. is_ruled info.saving && not k) (raw_standard only f g m n has turns some standard) ∙ ap (λ k. k && false) has.ruled) in
      record { set = set.0; is = ap (λ fault. unless fault (set_of_lines (only ∷ []))) none ∙ set.1 }
