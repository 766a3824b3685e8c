-- A line of two yearly rules f and g: when each fires, where f comes before g in each year, and the saving then in force.
use Rattle.std.specs.{Prelude.{◌≡◌, ℕ, zero, suc, ◌+◌, ◌<◌, ◌⊎◌, false, true, List, [], ◌∷◌, None, Ok, if◌then◌else◌, ℤ, pos, ◌+ℤ◌, ◌*ℤ◌, ◌≤ℤ◌, ◌<ℤ◌, int_le}, Ordering.{int_eq}}
use Rattle.zone_table.specs.{Days.{named_day}, declared.time.TimeType.TheVariants.{Wall}, Moments.{moment, applies_to_year}, declared.rule.RuleInfo.{RuleInfo}, declared.zone.ZoneInfo.{ZoneInfo}}
use Rattle.zone_spans.specs.{Compiled.{compiled}, Firings.{Firing}, Lines.{Line, Rulesets, is_ruled}, Years.{earliest_year, most_years}, declared.span.FixedTimespanSet.{FixedTimespanSet}}

-- the two rules, listed in either order
abbrev pub AreBoth : RuleInfo → RuleInfo → List RuleInfo → Type 0
AreBoth f g rules = (rules ≡ f ∷ g ∷ []) ⊎ (rules ≡ g ∷ f ∷ [])

-- the second that a rule writes for a year, by the clock that it means
abbrev pub written : RuleInfo → ℤ → ℤ
written rule year = pos 86400 *ℤ named_day rule.day year rule.month +ℤ rule.time

-- the years from 1800 + m on
abbrev pub year_from : ℕ → ℕ → ℤ
year_from m i = pos (earliest_year + (m + i))

module _ (offset : ℤ) (f g : RuleInfo) (m : ℕ) where
  -- a line begins with no saving, and each later year with that of g
  abbrev pub saving_before : ℕ → ℤ
  saving_before zero = pos 0
  saving_before (suc i) = g.time_to_add

  -- f fires first in the year i, and then g
  abbrev pub first_at : ℕ → Firing
  first_at i = record { time = moment f (year_from m i) offset (saving_before i); rule = f }

  abbrev pub second_at : ℕ → Firing
  second_at i = record { time = moment g (year_from m i) offset f.time_to_add; rule = g }

  -- the saving in force at a second of the year i
  abbrev pub saving_in : ℕ → ℤ → ℤ
  saving_in i second =
      if int_le (second_at i).time second then g.time_to_add
      else if int_le (first_at i).time second then f.time_to_add
      else saving_before i

  -- the year before the year i is over at a second, and of n years those after it have not begun
  pub record IsInYear (n i : ℕ) (second : ℤ) : Type 0 where
    pub past : (j : ℕ) → suc j ≡ i → (second_at j).time ≤ℤ second
    pub to_come : (j : ℕ) → i < j → j < n → second <ℤ (first_at j).time

-- a line of these two rules, by the wall's clock, which apply to each of the n years from 1800 + m to 2099 and to none before
pub record HasTwoRules (line : Line) (f g : RuleInfo) (m n : ℕ) : Type 0 where
  pub ruled : is_ruled line.info.saving ≡ true
  pub no_end : line.end ≡ None
  pub both : AreBoth f g line.rules
  pub years : m + n ≡ most_years
  pub f_wall : f.time_type ≡ Wall
  pub g_wall : g.time_type ≡ Wall
  pub f_not_before : (i : ℕ) → i < m → applies_to_year f (pos (earliest_year + i)) ≡ false
  pub g_not_before : (i : ℕ) → i < m → applies_to_year g (pos (earliest_year + i)) ≡ false
  pub f_applies : (i : ℕ) → i < n → applies_to_year f (year_from m i) ≡ true
  pub g_applies : (i : ℕ) → i < n → applies_to_year g (year_from m i) ≡ true

-- the two savings differ; in each of n years f is written before g, and both before the next year's; and so they fire
pub record AreInTurn (offset : ℤ) (f g : RuleInfo) (m n : ℕ) : Type 0 where
  pub f_differs : int_eq f.time_to_add g.time_to_add ≡ false
  pub g_differs : int_eq g.time_to_add f.time_to_add ≡ false
  pub order : (i : ℕ) → i < n → written f (year_from m i) <ℤ written g (year_from m i)
  pub next : (i : ℕ) → suc i < n → written g (year_from m i) <ℤ written f (year_from m (suc i))
  pub rise : (i : ℕ) → i < n → (first_at offset f g m i).time ≤ℤ (second_at offset f g m i).time
  pub rise_next : (i : ℕ) → suc i < n → (second_at offset f g m i).time ≤ℤ (first_at offset f g m (suc i)).time

-- the set that is compiled of lines
pub record IsCompiled (rulesets : Rulesets) (infos : List ZoneInfo) : Type 0 where
  pub set : FixedTimespanSet
  pub is : compiled rulesets infos ≡ Ok set
