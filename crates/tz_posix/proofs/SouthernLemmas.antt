-- Where the end comes first in each year, the zone and the value agree from the first start on.
use Rattle.std.proofs.Common.{◌≡◌, ℕ, zero, suc, ◌-◌, ◌<◌, inl, true, cond, [], ◌∷◌, Ok, refl, sym, ap, ◌∙◌, arith, ℤ, pos, ◌+ℤ◌, ◌≤ℤ◌, ◌<ℤ◌, int_le}
use Rattle.basics.specs.{ComparisonLaws.{le_from_lt, le_pass, le_same}, SignedLaws.{signed}}
use Rattle.civil_base.specs.Instants.{seconds_of}
use Rattle.zone_table.specs.Moments.{moment}
use Rattle.zone_spans.specs.{Compiled.{compiled}, Lines.{Rulesets}, Schedules.{schedule_of_lines, total_at, totals_of}, declared.span.FixedTimespanSet.{FixedTimespanSet}}
use Rattle.tz_posix.specs.{TwoRules.{AreInTurn, IsCompiled, IsInYear, first_at, saving_in, second_at, written, year_from}, Agreement.{IsFromFirstStart, IsInRuleYears, IsSouthern, RuledValue, SaysTheSame, TwoRuleZone, end_in, first_year, start_in, value_total}}
use Rattle.tz_posix.specs.InForce.{is_within}
use Rattle.tz_posix.proofs.{TwoRuleSetLemmas.{two_rules_compile}, TwoRuleFiringLemmas.{wall_moment}, TwoRuleTotalLemmas.{two_rules_total}, HemisphereLemmas.{southern_total, start_before_end, end_before_start, up_le, up_lt, later_end}}
use Rattle.tz_posix.proofs.StandardYearLemmas.{years_before}
use Rattle.tz_posix.proofs.AgreementLemmas.{a_start, an_end, at, compiled_line, differ, end-written, end_expandable, end_first, first_place, first_rule_year, found_place, in_order, ith_end, ith_start, known, line_of, schedule-is, start-written, start_expandable, value_total-is, year_count, year_of_place}

module _ (rulesets : Rulesets) (zone : TwoRuleZone) (q : RuledValue) (c : SaysTheSame rulesets zone q) (south : IsSouthern zone) where
  abbrev o : ℤ
  o = zone.line.offset

  abbrev p : ℤ
  p = zone.start.time_to_add

  abbrev m : ℕ
  m = years_before zone.from

  -- the first year begins with no saving, so its end fires the saving later
  first_end : (first_at o zone.end zone.start m 0).time ≡ ith_end zone 0 +ℤ p
  first_end =
      wall_moment zone.end (year_from m 0) o (pos 0) c.end_wall
      ∙ later_end (written zone.end (year_from m 0)) o p (ith_end zone 0) (end-written rulesets zone q c _)

  start_at : (i : ℕ) → (second_at o zone.end zone.start m i).time ≡ ith_start zone i
  start_at i = ap (moment zone.start (year_from m i) o) c.no_saving

  in_year : (i : ℕ) → i < year_count zone → (ith_end zone i +ℤ p) <ℤ ith_start zone i
  in_year i l =
      let year = year_of_place rulesets zone q c i l in
      let gap = c.apart (ith_end zone i) (ith_start zone i) (an_end rulesets zone q c _ year) (a_start rulesets zone q c _ year) (south _ year) in
      omega (arith, signed, gap)

  to_next : (i : ℕ) → suc i < year_count zone → (ith_start zone i +ℤ p) <ℤ ith_end zone (suc i)
  to_next i l =
      let year = year_of_place rulesets zone q c i (omega (arith, l)) in
      let next = year_of_place rulesets zone q c (suc i) l in
      c.apart (ith_start zone i) (ith_end zone (suc i)) (a_start rulesets zone q c _ year) (an_end rulesets zone q c _ next)
      (in_order rulesets zone q c i (suc i) _ _ (omega arith) l (c.start_inside _ year) (c.end_inside _ next))

  rise : (i : ℕ) → i < year_count zone → (first_at o zone.end zone.start m i).time ≤ℤ (second_at o zone.end zone.start m i).time
  rise zero l = le_same _ _ _ _ first_end (start_at 0) (le_from_lt _ _ (in_year 0 l))
  rise (suc i) l = le_same _ _ _ _ refl (start_at (suc i)) (up_le (ith_end zone (suc i)) (ith_start zone (suc i)) p c.saving (in_year (suc i) l))

  in_turn : AreInTurn o zone.end zone.start m (year_count zone)
  in_turn = record {
    f_differs = (differ rulesets zone q c).1;
    g_differs = (differ rulesets zone q c).0;
    order = λ i l. end_before_start _ _ o p (ith_start zone i) (ith_end zone i) (start-written rulesets zone q c _) (end-written rulesets zone q c _) (in_year i l);
    next = λ i l. start_before_end _ _ o p (ith_start zone i) (ith_end zone (suc i)) (start-written rulesets zone q c _) (end-written rulesets zone q c _)
        c.saving (up_lt (ith_start zone i) (ith_end zone (suc i)) p c.saving (to_next i l));
    rise = rise;
    rise_next = λ i l. le_same _ _ _ _ (start_at i) refl (up_le (ith_start zone i) (ith_end zone (suc i)) p c.saving (to_next i l));
  }

  to_come : (i : ℕ) (s : ℤ) → i < year_count zone → IsInRuleYears o (year_from m i) (year_from m i) s → (j : ℕ) → i < j → j < year_count zone
      → s <ℤ (first_at o zone.end zone.start m j).time
  to_come i s l here zero d k = absurd (omega arith)
  to_come i s l here (suc j) d k =
      in_order rulesets zone q c i (suc j) _ _ d k here (c.end_inside _ (year_of_place rulesets zone q c (suc j) k))

  inside : (i : ℕ) (s : ℤ) → i < year_count zone → IsInRuleYears o (year_from m i) (year_from m i) s → IsInYear o zone.end zone.start m (year_count zone) i s
  inside i s l here = record {
    past = λ j e. let next : j < i = omega arith in
        le_same _ _ _ _ (start_at j) refl
        (le_from_lt _ _ (in_order rulesets zone q c j i _ _ next l (c.start_inside _ (year_of_place rulesets zone q c j (omega arith))) here));
    to_come = to_come i s l here;
  }

  -- from the first start on, the saving before each year is as good as that of the start
  by_year : (i : ℕ) (s : ℤ) → i < year_count zone → ith_start zone 0 ≤ℤ s
      → o +ℤ saving_in o zone.end zone.start m i s ≡ cond (is_within (ith_start zone i) (ith_end zone i) s) (o +ℤ p) o
  by_year zero s l begun =
      let after : int_le (ith_start zone 0) s ≡ true = le_pass (ith_start zone 0) s begun in
      let ended = cond (int_le (first_at o zone.end zone.start m 0).time s) zone.end.time_to_add (pos 0) in
      (λ i. o +ℤ cond (int_le (start_at 0 i) s) p ended)
      ∙ ap (λ b. o +ℤ cond b p ended) after
      ∙ sym (ap (λ b. o +ℤ cond b p (cond (int_le (ith_end zone 0) s) (pos 0) p)) after)
      ∙ southern_total o p p (ith_start zone 0) (ith_end zone 0) s (south _ (year_of_place rulesets zone q c 0 l)) (λ _. refl)
  by_year (suc i) s l begun =
      (λ k. o +ℤ cond (int_le (start_at (suc i) k) s) p (cond (int_le (ith_end zone (suc i)) s) (c.no_saving k) p))
      ∙ southern_total o p p (ith_start zone (suc i)) (ith_end zone (suc i)) s (south _ (year_of_place rulesets zone q c (suc i) l)) (λ _. refl)

  at_place : (set : FixedTimespanSet) → compiled rulesets (zone.line ∷ []) ≡ Ok set → (t : ℤ) (i : ℕ) → i < year_count zone
      → IsInRuleYears o (year_from m i) (year_from m i) (seconds_of t) → ith_start zone 0 ≤ℤ seconds_of t
      → total_at (totals_of set) t ≡ cond (is_within (ith_start zone i) (ith_end zone i) (seconds_of t)) (o +ℤ p) o
  at_place set is t i l here begun =
      two_rules_total (line_of rulesets zone.line) zone.end zone.start m (year_count zone) (end_first rulesets zone q c) in_turn set
      (compiled_line rulesets zone.line set is) t i l (inside i (seconds_of t) l here)
      ∙ by_year i (seconds_of t) l begun

  pub southern_covered : (s : ℤ) → IsFromFirstStart zone s → IsInRuleYears o (first_year zone.from) (pos 2099) s
  southern_covered s from =
      let first = c.start_inside (first_year zone.from) (first_rule_year rulesets zone q c) in
      record { begun = omega (arith, signed, first.begun, from.begun); not_over = from.not_over }

  pub southern_compiled : IsCompiled rulesets (zone.line ∷ [])
  southern_compiled =
      two_rules_compile rulesets zone.line zone.end zone.start m (year_count zone) (end_first rulesets zone q c) in_turn (at rulesets zone q c).some
      (inl c.no_saving) (known rulesets zone q c) (end_expandable rulesets zone q c) (start_expandable rulesets zone q c)

  pub southern_agrees : (t : ℤ) → IsFromFirstStart zone (seconds_of t)
      → total_at (schedule_of_lines rulesets (zone.line ∷ [])) t ≡ value_total q (seconds_of t)
  southern_agrees t from =
      let found = found_place rulesets zone q c (seconds_of t) (southern_covered (seconds_of t) from) in
      let first : start_in zone (first_year zone.from) ≡ ith_start zone 0 = ap (start_in zone) (first_place rulesets zone q c) in
      schedule-is rulesets (zone.line ∷ []) southern_compiled.set southern_compiled.is t
      ∙ at_place southern_compiled.set southern_compiled.is t found.place found.below found.inside (le_same _ _ _ _ (sym first) refl from.begun)
      ∙ sym (value_total-is rulesets zone q c _ (seconds_of t) found.year found.in_range)
