-- Rules that apply to a year, each with its place among all.
use Rattle.std.specs.Prelude.{IsTrue, ◌≤ℤ◌, pos, neg_ℤ, ℕ, suc, List, [], ◌∷◌, cond, ℤ}
use Rattle.zone_table.specs.{declared.rule.RuleInfo.{RuleInfo}, Moments.{applies_to_year, instant_of, moment}, LineBounds.{are_small_seconds}}

-- a rule, its place among all, and its local second in the year
pub record Placed : Type 0 where
  pub place : ℕ
  pub local : ℤ
  pub rule : RuleInfo

abbrev pub placed_at : ℤ → ℕ → RuleInfo → Placed
placed_at year n rule = record { place = n; local = moment rule year (pos 0) (pos 0); rule = rule }

-- those of the rules that apply to the year; the first of all has that place
abbrev pub placed_from : ℤ → ℕ → List RuleInfo → List Placed
placed_from year n [] = []
placed_from year n (r ∷ rs) =
    cond (applies_to_year r year) (placed_at year n r ∷ placed_from year (suc n) rs) (placed_from year (suc n) rs)

abbrev pub time_of : ℤ → ℤ → Placed → ℤ
time_of offset saving p = instant_of p.rule.time_type p.local offset saving

-- a local second of a rule under which sums fit
pub record IsSmallAt (local : ℤ) (rule : RuleInfo) : Type 0 where
  pub least : neg_ℤ (pos 500000000000) ≤ℤ local
  pub greatest : local ≤ℤ pos 500000000000
  pub saving : IsTrue (are_small_seconds rule.time_to_add)
