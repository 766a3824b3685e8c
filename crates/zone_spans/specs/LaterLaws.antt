-- More years: of a line that ends in 2099 or before nothing, of one with no end those years after the first.
use Rattle.std.proofs.{Common.{◌≡◌, ℕ, zero, suc, ◌+◌, ◌-◌, ◌≤◌, min, nat_abs, nat_lt, true, ◌++◌, List, Option, Some, None, ℤ, pos, sym, ap, ◌∙◌, append-nil, append_assoc, arith}, lemmas.Bool.Decides.{nat_tests}}
use Rattle.zone_table.specs.{Ends.{end_year, year_number}, declared.change.ChangeTime.{ChangeTime}, declared.rule.RuleInfo.{RuleInfo}}
use Rattle.zone_spans.specs.{Firings.{firings_of_years, year_firings, years_over}, GoesOn.{ends_by_then}, Later.{firings_from}, Years.{earliest_year}}

abbrev pub EndsByThen : Option ChangeTime → Type 0
EndsByThen None = ⊥
EndsByThen (Some end) = nat_abs (year_number (end_year end)) ≤ 2099

ended_by : (n : ℕ) → nat_lt n 2100 ≡ true → n ≤ 2099
ended_by n h = grind (arith, nat_tests)

pub ends-by : (end : Option ChangeTime) → ends_by_then end ≡ true → EndsByThen end
ends-by None h = absurd cc
ends-by (Some end) h = ended_by (nat_abs (year_number (end_year end))) h

fewer : (n a : ℕ) → 300 ≤ n → a ≤ 2099 → min n (a - (1800 - 1)) ≡ min 300 (a - (1800 - 1))
fewer n a h k = omega arith

pub years_over-ended : (n : ℕ) (end : Option ChangeTime) → 300 ≤ n → EndsByThen end → years_over n end ≡ years_over 300 end
unfolding years_over
years_over-ended n None late ended = absurd ended
years_over-ended n (Some end) late ended = fewer n (nat_abs (year_number (end_year end))) late ended

-- more years are those years after the first
pub firings_of_years-split : (place k : ℕ) (offset : ℤ) (rules : List RuleInfo)
    → firings_of_years offset None rules (k + place) ≡ (
      (firings_of_years offset None rules place).0 ++
          (firings_from place offset rules (firings_of_years offset None rules place).1 k).0,
      (firings_from place offset rules (firings_of_years offset None rules place).1 k).1,
    )
unfolding firings_from firings_of_years
firings_of_years-split place zero offset rules =
    let same : 0 + place ≡ place = omega arith in
    let begun = firings_of_years offset None rules place in
    ap (firings_of_years offset None rules) same ∙ (λ i. (sym (append-nil begun.0) i, begun.1))
firings_of_years-split place (suc k) offset rules =
    let next : suc k + place ≡ suc (k + place) = omega arith in
    let begun = firings_of_years offset None rules place in
    let more = firings_from place offset rules begun.1 k in
    let here = year_firings (pos (earliest_year + (k + place))) offset None more.1 rules in
    rw (next, firings_of_years-split place k offset rules) (λ i. (append_assoc begun.0 more.0 here.0 i, here.1))
