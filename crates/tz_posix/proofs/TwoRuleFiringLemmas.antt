-- What a line of two yearly rules fires: f and then g in each year, whatever saving the year begins with.
use Rattle.std.proofs.{Common.{◌≡◌, ℕ, zero, suc, ◌+◌, ◌<◌, ◌≤◌, ⊎_elim, true, false, cond, List, [], ◌∷◌, ◌++◌, length, reverse, filter, None, ℤ, pos, ◌+ℤ◌, ◌-ℤ◌, ◌<ℤ◌, int_lt, refl, sym, ap, ◌∙◌, arith}, lemmas.Int.{ints}, lemmas.List.{reverse-append}}
use Rattle.zone_table.specs.{declared.time.TimeType.TheVariants.{Wall}, Moments.{applies_to_year, instant_of, moment}, declared.rule.RuleInfo.{RuleInfo}}
use Rattle.zone_spans.specs.{Firings.{Firing, Fired, earliest, fired, firings_of_years, is_earlier, line_firings, line_firings_over, year_firings, years_expanded, years_over}, Lines.{Line, fixed_saving}}
use Rattle.tz_posix.specs.TwoRules.{AreBoth, HasTwoRules, AreInTurn, first_at, saving_before, second_at, written, year_from}

-- in the year both apply, by the wall's clock, and f is written before g
record IsPair (f g : RuleInfo) (year : ℤ) : Type 0 where
  f_applies : applies_to_year f year ≡ true
  g_applies : applies_to_year g year ≡ true
  f_wall : f.time_type ≡ Wall
  g_wall : g.time_type ≡ Wall
  order : written f year <ℤ written g year

-- by the wall's clock a rule fires at the second that it writes, less the offset and the saving
pub wall_moment : (r : RuleInfo) (year offset saving : ℤ) → r.time_type ≡ Wall
    → moment r year offset saving ≡ written r year -ℤ (offset +ℤ saving)
unfolding moment instant_of
wall_moment r year offset saving wall = ap (λ clock. instant_of clock (written r year) offset saving) wall

sooner : (a b o : ℤ) → a <ℤ b → int_lt (a -ℤ o) (b -ℤ o) ≡ true
sooner a b o h = grind (arith, ints)

not_sooner : (a b o : ℤ) → a <ℤ b → int_lt (b -ℤ o) (a -ℤ o) ≡ false
not_sooner a b o h = grind (arith, ints)

module _ (offset : ℤ) (f g : RuleInfo) (year saving : ℤ) (pair : IsPair f g year) where
  g_later : is_earlier year offset saving g f ≡ false
  g_later =
      (λ i. int_lt (wall_moment g year offset saving pair.g_wall i) (wall_moment f year offset saving pair.f_wall i))
      ∙ not_sooner _ _ (offset +ℤ saving) pair.order

  f_sooner : is_earlier year offset saving f g ≡ true
  f_sooner =
      (λ i. int_lt (wall_moment f year offset saving pair.f_wall i) (wall_moment g year offset saving pair.g_wall i))
      ∙ sooner _ _ (offset +ℤ saving) pair.order

  -- what comes of the rule that is next, of two, and the other
  abbrev from_next : RuleInfo × List RuleInfo → Fired
  from_next next =
      let later = fired 1 year offset None next.0.time_to_add next.1 in
      (record { time = moment next.0 year offset saving; rule = next.0 } ∷ later.0, later.1)

  abbrev f_and_g : Fired
  f_and_g = (
    record { time = moment f year offset saving; rule = f } ∷ record { time = moment g year offset f.time_to_add; rule = g } ∷ [],
    g.time_to_add,
  )

  both_fire : (rules : List RuleInfo) → AreBoth f g rules → fired 2 year offset None saving rules ≡ f_and_g
  unfolding fired earliest
  both_fire rules both = ⊎_elim
      (λ e. ap (fired 2 year offset None saving) e ∙ ap (λ b. from_next (cond b (g, f ∷ []) (f, g ∷ []))) g_later)
      (λ e. ap (fired 2 year offset None saving) e ∙ ap (λ b. from_next (cond b (f, g ∷ []) (g, f ∷ []))) f_sooner)
      both

  all_apply : (rules : List RuleInfo) → AreBoth f g rules → filter (λ r. applies_to_year r year) rules ≡ rules
  all_apply rules both = ⊎_elim
      (λ e. ap (filter (λ r. applies_to_year r year)) e
      ∙ (λ i. cond (pair.f_applies i) (f ∷ cond (pair.g_applies i) (g ∷ []) []) (cond (pair.g_applies i) (g ∷ []) [])) ∙ sym e)
      (λ e. ap (filter (λ r. applies_to_year r year)) e
      ∙ (λ i. cond (pair.g_applies i) (g ∷ cond (pair.f_applies i) (f ∷ []) []) (cond (pair.f_applies i) (f ∷ []) [])) ∙ sym e)
      both

  two_rules : (rules : List RuleInfo) → AreBoth f g rules → length rules ≡ 2
  two_rules rules both = ⊎_elim (λ e. ap length e) (λ e. ap length e) both

  -- and the saving of g is left
  year_of_two : (rules : List RuleInfo) → AreBoth f g rules → year_firings year offset None saving rules ≡ f_and_g
  unfolding year_firings
  year_of_two rules both =
      let applying = all_apply rules both in
      (λ i. fired (length (applying i)) year offset None saving (applying i))
      ∙ ap (λ n. fired n year offset None saving rules) (two_rules rules both)
      ∙ both_fire rules both

-- the firings of the first k years from 1800 + m on, the latest first
abbrev pub latest : ℤ → RuleInfo → RuleInfo → ℕ → ℕ → List Firing
latest offset f g m zero = []
latest offset f g m (suc k) = second_at offset f g m k ∷ first_at offset f g m k ∷ latest offset f g m k

module _ (line : Line) (f g : RuleInfo) (m n : ℕ) (has : HasTwoRules line f g m n) (turns : AreInTurn line.info.offset f g m n) where
  abbrev offset : ℤ
  offset = line.info.offset

  none_apply : (i : ℕ) → i < m → filter (λ r. applies_to_year r (pos (1800 + i))) line.rules ≡ []
  none_apply i l = ⊎_elim
      (λ e. ap (filter (λ r. applies_to_year r (pos (1800 + i)))) e
      ∙ (λ k. cond (has.f_not_before i l k) (f ∷ cond (has.g_not_before i l k) (g ∷ []) []) (cond (has.g_not_before i l k) (g ∷ []) [])))
      (λ e. ap (filter (λ r. applies_to_year r (pos (1800 + i)))) e
      ∙ (λ k. cond (has.g_not_before i l k) (g ∷ cond (has.f_not_before i l k) (f ∷ []) []) (cond (has.f_not_before i l k) (f ∷ []) [])))
      has.both

  -- one year more
  abbrev with_year : ℕ → Fired → Fired
  with_year i before = let here = year_firings (pos (1800 + i)) offset None before.1 line.rules in (before.0 ++ here.0, here.1)

  quiet_year : (i : ℕ) → i < m → year_firings (pos (1800 + i)) offset None (pos 0) line.rules ≡ ([], pos 0)
  unfolding year_firings fired
  quiet_year i l = ap (λ rs. fired (length rs) (pos (1800 + i)) offset None (pos 0) rs) (none_apply i l)

  none_fire : (i : ℕ) → i ≤ m → firings_of_years offset None line.rules i ≡ ([], pos 0)
  unfolding firings_of_years
  none_fire zero l = refl
  none_fire (suc i) l = ap (with_year i) (none_fire i (omega arith)) ∙ quiet_year i (omega arith)

  pair_of : (i : ℕ) → i < n → IsPair f g (year_from m i)
  pair_of i l = record {
    f_applies = has.f_applies i l;
    g_applies = has.g_applies i l;
    f_wall = has.f_wall;
    g_wall = has.g_wall;
    order = turns.order i l;
  }

  -- the firings are the pairs in order, whichever year is the last
  firings_are : (k : ℕ) → k ≤ n
      → firings_of_years offset None line.rules (m + k) ≡ (reverse (latest offset f g m k), saving_before offset f g m k)
  unfolding firings_of_years
  firings_are zero l = let at : m + 0 ≡ m = omega arith in ap (firings_of_years offset None line.rules) at ∙ none_fire m (omega arith)
  firings_are (suc k) l =
      let at : m + suc k ≡ suc (m + k) = omega arith in
      let saving = saving_before offset f g m k in
      let here = year_of_two offset f g (year_from m k) saving (pair_of k (omega arith)) line.rules has.both in
      ap (firings_of_years offset None line.rules) at
      ∙ ap (with_year (m + k)) (firings_are k (omega arith))
      ∙ ap (λ (p : Fired). (reverse (latest offset f g m k) ++ p.0, p.1)) here
      ∙ ap (λ (fs : List Firing). (fs, g.time_to_add))
      (sym (reverse-append (second_at offset f g m k ∷ first_at offset f g m k ∷ []) (latest offset f g m k)))

  all_years : years_expanded line.end ≡ m + n
  unfolding years_over
  all_years = ap years_expanded has.no_end ∙ sym has.years

  pub two_rules_fire : (line_firings line).0 ≡ reverse (latest offset f g m n)
  unfolding line_firings_over
  two_rules_fire =
      ap (λ b. (cond b (firings_of_years offset line.end line.rules (years_expanded line.end)) ([], fixed_saving line.info.saving)).0) has.ruled
      ∙ (λ i. (firings_of_years offset (has.no_end i) line.rules (all_years i)).0)
      ∙ ap (λ (p : Fired). p.0) (firings_are n (omega arith))
