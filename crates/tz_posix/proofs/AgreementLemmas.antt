-- A zone of two yearly rules beside the POSIX value that says the same, whichever of its start and its end comes first.
use Rattle.std.proofs.{Common.{◌≡◌, ℕ, ◌+◌, ◌-◌, ◌<◌, inl, inr, ⊎_elim, true, false, cond, ◌&&◌, List, [], ◌∷◌, None, Option, Some, is_some, unwrap_or, Result, Ok, refl, sym, ap, ◌∙◌, subst, arith, ℤ, pos, ◌+ℤ◌, ◌-ℤ◌, ◌*ℤ◌, ◌<ℤ◌, int_eq}, lemmas.Int.{ints}}
use Rattle.basics.specs.{Days.{IsCountedYear}, SignedLaws.{signed}}
use Rattle.zone_table.specs.{declared.{time.TimeType.TheVariants.{Wall}, year.Year.TheVariants.{Maximum, Number}}, Moments.{has_last_year, is_number, moment}, declared.rule.RuleInfo.{RuleInfo}, declared.zone.ZoneInfo.{ZoneInfo}}
use Rattle.zone_spans.specs.{Compiled.{compiled, compiled_over, set_of_lines, unless}, Faults.{schedule_fault}, Lines.{Line, Rulesets, is_known, is_ruled, rules_named, zone_lines}, Schedules.{schedule_of_lines, totals_told, total_at, totals_of}}
use Rattle.zone_spans.specs.declared.{fault.SpanFault.{SpanFault}, span.FixedTimespanSet.{FixedTimespanSet}}
use Rattle.tz_posix.specs.{TwoRules.{AreBoth, HasTwoRules, written, year_from}, Agreement.{IsChange, IsInRuleYears, IsRuleYear, IsSameTime, RuledValue, SaysTheSame, TwoRuleZone, end_in, first_year, start_in, value_total}}
use Rattle.tz_posix.specs.InForce.{YearlyTime, instant_in, is_saving, is_within, posix_total, year_at, yearly_time}
use Rattle.tz_posix.proofs.{TwoRuleSetLemmas.{IsExpandable}, TwoRuleFiringLemmas.{wall_moment}, HemisphereLemmas.{savings_differ}, NamedDayLemmas.{named_day-is, never_outside}}
use Rattle.tz_posix.proofs.StandardYearLemmas.{ArePlaces, IsNear, applies_from, are_places, earlier_year, near-counted, near_year, not_before, place_in, place_in-is, rule_year, year_at-is, years_before}

-- how many years the rules have, and the start and the end of the i-th of them
abbrev pub year_count : TwoRuleZone → ℕ
year_count zone = 300 - years_before zone.from

abbrev pub ith_start : TwoRuleZone → ℕ → ℤ
ith_start zone i = start_in zone (year_from (years_before zone.from) i)

abbrev pub ith_end : TwoRuleZone → ℕ → ℤ
ith_end zone i = end_in zone (year_from (years_before zone.from) i)

-- ---- what is compiled

same_set : (fault : Option SpanFault) (result : Result FixedTimespanSet SpanFault) (set : FixedTimespanSet)
    → unless fault result ≡ Ok set → result ≡ Ok set
same_set None result set h = h
same_set (Some fault) result set h = cc

abbrev pub line_of : Rulesets → ZoneInfo → Line
line_of rulesets info = record { info = info; rules = rules_named rulesets info.saving; end = None }

pub compiled_line : (rulesets : Rulesets) (info : ZoneInfo) (set : FixedTimespanSet) → compiled rulesets (info ∷ []) ≡ Ok set
    → set_of_lines (line_of rulesets info ∷ []) ≡ Ok set
unfolding compiled_over zone_lines
compiled_line rulesets info set h = same_set (schedule_fault rulesets (info ∷ [])) _ set h

pub schedule-is : (rulesets : Rulesets) (infos : List ZoneInfo) (set : FixedTimespanSet) → compiled rulesets infos ≡ Ok set → (t : ℤ)
    → total_at (schedule_of_lines rulesets infos) t ≡ total_at (totals_of set) t
unfolding schedule_of_lines
schedule-is rulesets infos set is t = ap (λ result. total_at (totals_told result) t) is

-- ---- the two moments of a year

-- a yearly time is that of its rule, read at the offset and the saving
instant-is : (rule : RuleInfo) (time : YearlyTime) (y o saving offset : ℤ) → IsNear y → rule.time_type ≡ Wall → IsSameTime rule time
    → offset ≡ o +ℤ saving → instant_in y offset time ≡ moment rule y o saving
unfolding instant_in
instant-is rule time y o saving offset near wall same is =
    (λ i. pos 86400 *ℤ sym (named_day-is rule.month same.weekday rule.day time.0 y (near-counted y near) same.day) i
    +ℤ sym same.seconds i -ℤ is i)
    ∙ sym (wall_moment rule y o saving wall)

no_saving_more : (o x : ℤ) → x ≡ o → x ≡ o +ℤ pos 0
no_saving_more o x h = omega (arith, ints)

module _ (rulesets : Rulesets) (zone : TwoRuleZone) (q : RuledValue) (c : SaysTheSame rulesets zone q) where
  abbrev off : ℤ
  off = zone.line.offset

  abbrev p : ℤ
  p = zone.start.time_to_add

  pub near : (y : ℤ) → IsRuleYear zone.from y → IsNear y
  near y year = near_year zone.from y c.from_at_most year

  start-is : (y : ℤ) → IsRuleYear zone.from y → instant_in y off (yearly_time q.rule.start) ≡ start_in zone y
  start-is y year = instant-is zone.start _ y off (pos 0) off (near y year) c.start_wall c.same_start (no_saving_more off off refl)

  end-is : (y : ℤ) → IsRuleYear zone.from y → instant_in y (off +ℤ p) (yearly_time q.rule.end) ≡ end_in zone y
  end-is y year = instant-is zone.end _ y off p (off +ℤ p) (near y year) c.end_wall c.same_end refl

  -- the value's total, by the start and the end of the year
  pub value_total-is : (y s : ℤ) → year_at off s ≡ y → IsRuleYear zone.from y
      → value_total q s ≡ cond (is_within (start_in zone y) (end_in zone y) s) (off +ℤ p) off
  unfolding posix_total is_saving
  value_total-is y s is year =
      (λ i. posix_total (c.same_standard i) (c.same_saving i) (yearly_time q.rule.start) (yearly_time q.rule.end) s)
      ∙ (λ i. cond (is_within (instant_in (is i) off (yearly_time q.rule.start)) (instant_in (is i) (off +ℤ p) (yearly_time q.rule.end)) s) (off +ℤ p) off)
      ∙ (λ i. cond (is_within (start-is y year i) (end-is y year i) s) (off +ℤ p) off)

  pub a_start : (y : ℤ) → IsRuleYear zone.from y → IsChange zone (start_in zone y)
  a_start y year = record { year = y; in_range = year; is = inl refl }

  pub an_end : (y : ℤ) → IsRuleYear zone.from y → IsChange zone (end_in zone y)
  an_end y year = record { year = y; in_range = year; is = inr refl }

  pub start-written : (y : ℤ) → start_in zone y ≡ written zone.start y -ℤ (off +ℤ pos 0)
  start-written y = wall_moment zone.start y off (pos 0) c.start_wall

  pub end-written : (y : ℤ) → end_in zone y ≡ written zone.end y -ℤ (off +ℤ p)
  end-written y = wall_moment zone.end y off p c.end_wall

  abbrev m : ℕ
  m = years_before zone.from

  abbrev n : ℕ
  n = 300 - years_before zone.from

  pub at : ArePlaces zone.from m n
  at = are_places zone.from c.from_at_most

  abbrev y : ℕ → ℤ
  y i = year_from m i

  pub year_of_place : (i : ℕ) → i < n → IsRuleYear zone.from (y i)
  year_of_place i l = rule_year zone.from m n at i l

  -- the years begin in order
  pub in_order : (i j : ℕ) (s t : ℤ) → i < j → j < n → IsInRuleYears off (y i) (y i) s → IsInRuleYears off (y j) (y j) t → s <ℤ t
  in_order i j s t l k a b =
      let before : i < n = omega arith in
      earlier_year off (y i) (y j) s t (near (y i) (year_of_place i before)) (near (y j) (year_of_place j k)) (omega (arith, signed)) a b

  ruled_line : is_ruled zone.line.saving ≡ true
  ruled_line = ap is_ruled c.ruled

  rules-are : rules_named rulesets zone.line.saving ≡ c.rules
  rules-are = ap (rules_named rulesets) c.ruled ∙ ap (λ found. unwrap_or found []) c.found

  abbrev line : Line
  line = line_of rulesets zone.line

  pub known : is_known rulesets zone.line.saving ≡ true
  known = ap (is_known rulesets) c.ruled ∙ ap is_some c.found

  expandable : (rule : RuleInfo) (time : YearlyTime) → rule.from_year ≡ Number zone.from → rule.to_year ≡ Some Maximum
      → IsSameTime rule time → IsExpandable rule
  expandable rule time start end same = record {
    years = λ i. is_number (start i) && has_last_year (end i);
    inside = λ i l. let counted : IsCountedYear (pos (1800 + i)) = record { first = omega (arith, signed); last = omega (arith, signed) } in
        never_outside rule same.weekday time.0 (pos (1800 + i)) counted same.day;
  }

  pub start_expandable : IsExpandable zone.start
  start_expandable = expandable zone.start _ c.start_from c.start_to_max c.same_start

  pub end_expandable : IsExpandable zone.end
  end_expandable = expandable zone.end _ c.end_from c.end_to_max c.same_end

  both_rules : AreBoth zone.start zone.end (rules_named rulesets zone.line.saving)
  both_rules = subst (AreBoth zone.start zone.end) (sym rules-are) c.exactly_two

  other_way : AreBoth zone.end zone.start (rules_named rulesets zone.line.saving)
  other_way = ⊎_elim (λ e. inr e) (λ e. inl e) both_rules

  has_two : (f g : RuleInfo) → AreBoth f g (rules_named rulesets zone.line.saving) → f.time_type ≡ Wall → g.time_type ≡ Wall
      → f.from_year ≡ Number zone.from → g.from_year ≡ Number zone.from → f.to_year ≡ Some Maximum → g.to_year ≡ Some Maximum → HasTwoRules line f g m n
  has_two f g both f_wall g_wall f_from g_from f_to g_to = record {
    ruled = ruled_line;
    no_end = refl;
    both = both;
    years = at.all;
    f_wall = f_wall;
    g_wall = g_wall;
    f_not_before = not_before zone.from m n at f f_from f_to;
    g_not_before = not_before zone.from m n at g g_from g_to;
    f_applies = applies_from zone.from m n at f f_from f_to;
    g_applies = applies_from zone.from m n at g g_from g_to;
  }

  pub start_first : HasTwoRules line zone.start zone.end m n
  start_first = has_two zone.start zone.end both_rules c.start_wall c.end_wall c.start_from c.end_from c.start_to_max c.end_to_max

  pub end_first : HasTwoRules line zone.end zone.start m n
  end_first = has_two zone.end zone.start other_way c.end_wall c.start_wall c.end_from c.start_from c.end_to_max c.start_to_max

  pub differ : (int_eq p zone.end.time_to_add ≡ false) × (int_eq zone.end.time_to_add p ≡ false)
  differ = savings_differ p zone.end.time_to_add c.saving c.no_saving

  pub first_rule_year : IsRuleYear zone.from (first_year zone.from)
  first_rule_year = record { first = omega (arith, signed); last = omega (arith, signed, at.first, at.all, at.some) }

  pub first_place : first_year zone.from ≡ y 0
  first_place = omega (arith, signed, at.first)

  -- the place of the year of a second
  pub record IsPlaced (s : ℤ) : Type 0 where
    pub place : ℕ
    pub below : place < n
    pub inside : IsInRuleYears off (y place) (y place) s
    pub year : year_at off s ≡ y place
    pub in_range : IsRuleYear zone.from (y place)

  pub found_place : (s : ℤ) → IsInRuleYears off (first_year zone.from) (pos 2099) s → IsPlaced s
  found_place s covered =
      let first = near (first_year zone.from) first_rule_year in
      let last : IsNear (pos 2099) = record { first = omega (arith, signed); last = omega (arith, signed) } in
      let found = year_at-is off (first_year zone.from) (pos 2099) s first last covered in
      let in_range : IsRuleYear zone.from (year_at off s) = record { first = found.first; last = found.last } in
      let place = place_in-is zone.from m n at (year_at off s) in_range in
      let i = place_in zone.from m n at (year_at off s) in
      record {
        place = i;
        below = place.1;
        inside = subst (λ z. IsInRuleYears off z z s) place.0 found.inside;
        year = place.0;
        in_range = year_of_place i place.1;
      }
