-- Where the start comes first in each year, the zone and the value agree.
use Rattle.std.proofs.Common.{◌≡◌, ℕ, zero, suc, ◌-◌, ◌<◌, inr, cond, [], ◌∷◌, Ok, refl, sym, ap, ◌∙◌, arith, ℤ, pos, ◌+ℤ◌, ◌<ℤ◌, int_le}
use Rattle.basics.specs.{ComparisonLaws.{le_from_lt, le_same, lt_same}, SignedLaws.{signed}}
use Rattle.civil_base.specs.Instants.{seconds_of}
use Rattle.zone_table.specs.Moments.{moment}
use Rattle.zone_spans.specs.{Compiled.{compiled}, Lines.{Rulesets}, Schedules.{schedule_of_lines, total_at, totals_of}, declared.span.FixedTimespanSet.{FixedTimespanSet}}
use Rattle.tz_posix.specs.{TwoRules.{AreInTurn, IsCompiled, IsInYear, first_at, saving_before, year_from}, Agreement.{IsInRuleYears, IsNorthern, RuledValue, SaysTheSame, TwoRuleZone, end_in, first_year, start_in, value_total}, InForce.{is_within}}
use Rattle.tz_posix.proofs.{TwoRuleSetLemmas.{two_rules_compile}, TwoRuleTotalLemmas.{two_rules_total}, HemisphereLemmas.{northern_total, start_before_end, end_before_start, up_le}, StandardYearLemmas.{years_before}}
use Rattle.tz_posix.proofs.AgreementLemmas.{a_start, an_end, at, compiled_line, differ, end-written, end_expandable, found_place, in_order, ith_end, ith_start, known, line_of, schedule-is, start-written, start_expandable, start_first, value_total-is, year_count, year_of_place}

module _ (rulesets : Rulesets) (zone : TwoRuleZone) (q : RuledValue) (c : SaysTheSame rulesets zone q) (north : IsNorthern zone) where
  abbrev o : ℤ
  o = zone.line.offset

  abbrev m : ℕ
  m = years_before zone.from

  -- each year begins with no saving
  none_before : (i : ℕ) → saving_before o zone.start zone.end m i ≡ pos 0
  none_before zero = refl
  none_before (suc i) = c.no_saving

  first_is : (i : ℕ) → (first_at o zone.start zone.end m i).time ≡ ith_start zone i
  first_is i = ap (moment zone.start (year_from m i) o) (none_before i)

  to_next : (i : ℕ) → suc i < year_count zone → (ith_end zone i +ℤ zone.start.time_to_add) <ℤ ith_start zone (suc i)
  to_next i l =
      let year = year_of_place rulesets zone q c i (omega (arith, l)) in
      let next = year_of_place rulesets zone q c (suc i) l in
      c.apart (ith_end zone i) (ith_start zone (suc i)) (an_end rulesets zone q c _ year) (a_start rulesets zone q c _ next)
      (in_order rulesets zone q c i (suc i) _ _ (omega arith) l (c.end_inside _ year) (c.start_inside _ next))

  in_turn : AreInTurn o zone.start zone.end m (year_count zone)
  in_turn = record {
    f_differs = (differ rulesets zone q c).0;
    g_differs = (differ rulesets zone q c).1;
    order = λ i l. start_before_end _ _ o zone.start.time_to_add (ith_start zone i) (ith_end zone i) (start-written rulesets zone q c _) (end-written rulesets zone q c _)
        c.saving (north _ (year_of_place rulesets zone q c i l));
    next = λ i l. end_before_start _ _ o zone.start.time_to_add (ith_start zone (suc i)) (ith_end zone i) (start-written rulesets zone q c _) (end-written rulesets zone q c _)
        (to_next i l);
    rise = λ i l. le_same _ _ _ _ (first_is i) refl (le_from_lt _ _ (north _ (year_of_place rulesets zone q c i l)));
    rise_next = λ i l. le_same _ _ _ _ refl (first_is (suc i)) (up_le (ith_end zone i) (ith_start zone (suc i)) zone.start.time_to_add c.saving (to_next i l));
  }

  inside : (i : ℕ) (s : ℤ) → i < year_count zone → IsInRuleYears o (year_from m i) (year_from m i) s → IsInYear o zone.start zone.end m (year_count zone) i s
  inside i s l here = record {
    past = λ j e. let next : j < i = omega arith in
        le_from_lt _ _ (in_order rulesets zone q c j i _ _ next l (c.end_inside _ (year_of_place rulesets zone q c j (omega arith))) here);
    to_come = λ j d k. lt_same _ _ _ _ refl (first_is j)
        (in_order rulesets zone q c i j _ _ d k here (c.start_inside _ (year_of_place rulesets zone q c j k)));
  }

  at_place : (set : FixedTimespanSet) → compiled rulesets (zone.line ∷ []) ≡ Ok set → (t : ℤ) (i : ℕ) → i < year_count zone
      → IsInRuleYears o (year_from m i) (year_from m i) (seconds_of t)
      → total_at (totals_of set) t ≡ cond (is_within (ith_start zone i) (ith_end zone i) (seconds_of t)) (o +ℤ zone.start.time_to_add) o
  at_place set is t i l here =
      two_rules_total (line_of rulesets zone.line) zone.start zone.end m (year_count zone) (start_first rulesets zone q c) in_turn set
      (compiled_line rulesets zone.line set is) t i l (inside i (seconds_of t) l here)
      ∙ (λ k. o +ℤ cond (int_le (ith_end zone i) (seconds_of t)) (c.no_saving k) (cond (int_le (first_is i k) (seconds_of t)) zone.start.time_to_add (none_before i k)))
      ∙ northern_total o zone.start.time_to_add (ith_start zone i) (ith_end zone i) (seconds_of t) (north _ (year_of_place rulesets zone q c i l))

  pub northern_compiled : IsCompiled rulesets (zone.line ∷ [])
  northern_compiled =
      two_rules_compile rulesets zone.line zone.start zone.end m (year_count zone) (start_first rulesets zone q c) in_turn (at rulesets zone q c).some
      (inr c.no_saving) (known rulesets zone q c) (start_expandable rulesets zone q c) (end_expandable rulesets zone q c)

  pub northern_agrees : (t : ℤ) → IsInRuleYears o (first_year zone.from) (pos 2099) (seconds_of t)
      → total_at (schedule_of_lines rulesets (zone.line ∷ [])) t ≡ value_total q (seconds_of t)
  northern_agrees t covered =
      let found = found_place rulesets zone q c (seconds_of t) covered in
      schedule-is rulesets (zone.line ∷ []) northern_compiled.set northern_compiled.is t
      ∙ at_place northern_compiled.set northern_compiled.is t found.place found.below found.inside
      ∙ sym (value_total-is rulesets zone q c _ (seconds_of t) found.year found.in_range)
