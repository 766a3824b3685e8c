-- One year more.
use Rattle.std.proofs.Common.{◌≡◌, ℕ, ◌+◌, List, ◌++◌, Option, ℤ, pos, sym, ap, ◌∙◌, subst, add-one}
use Rattle.zone_table.specs.{declared.change.ChangeTime.{ChangeTime}, declared.rule.RuleInfo.{RuleInfo}}
use Rattle.zone_spans.{specs.Firings.{Firing, year_firings, firings_of_years}, specs.Stands.{StandsFor}, proofs.ListingLemmas.{stands_more}, specs.Years.{earliest_year}}

pub next_year : (offset : ℤ) (end : Option ChangeTime) (rules : List RuleInfo) (n : ℕ) (year saving : ℤ)
    → year ≡ pos (earliest_year + n) → saving ≡ (firings_of_years offset end rules n).1
    → let here = year_firings year offset end saving rules in
    firings_of_years offset end rules (n + 1) ≡ ((firings_of_years offset end rules n).0 ++ here.0, here.1)
unfolding firings_of_years
next_year offset end rules n year saving is in_force =
    ap (firings_of_years offset end rules) (add-one n)
    ∙ (λ i. let here = year_firings (sym is i) offset end (sym in_force i) rules in ((firings_of_years offset end rules n).0 ++ here.0, here.1))

-- what stood for the firings so far stands for those of one year more
pub stands_year : (start : Option ℤ) (so_far more next fired fired' : List Firing) → next ≡ so_far ++ more → fired' ≡ fired ++ more
    → StandsFor start fired so_far → StandsFor start fired' next
stands_year start so_far more next fired fired' next_is is stands =
    subst (λ xs. StandsFor start xs next) (sym is) (subst (StandsFor start (fired ++ more)) (sym next_is) (stands_more start fired so_far more stands))
