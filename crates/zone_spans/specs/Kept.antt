-- Summaries that are kept from line to line: of the first years of a ruleset under an offset, cut by no end.
use Rattle.std.specs.{Prelude.{◌≡◌, ℕ, suc, ◌+◌, ◌<◌, ◌≤◌, false, List, length, Option, None, ℤ, pos, int_le, int_lt, IsTrue, slice_index_or}, List.{last_or, list_all}, Option.{option_to_list}}
use Rattle.zone_table.specs.{LineBounds.{are_small_seconds}, declared.change.ChangeTime.{ChangeTime}, declared.rule.RuleInfo.{RuleInfo}}
use Rattle.zone_spans.specs.{Bounds.{is_bounded_firing}, Firings.{Fired, firings_of_years, is_over}, Quiet.{AppliesToNone}, declared.kept.Summary.{Summary}, Years.{years_limit}}

-- of the first n years, cut by no end
abbrev pub unended : ℤ → List RuleInfo → ℕ → Fired
unended offset rules n = firings_of_years offset None rules n

-- the saving after these firings, a second that none of them is after, and the last of them
pub record IsSummary (due : Fired) (summary : Summary) : Type 0 where
  pub saving : summary.saving ≡ due.1
  pub latest : IsTrue (list_all (λ f. int_le f.time summary.latest) due.0)
  pub last : summary.last ≡ last_or None due.0
  pub bounded : IsTrue (list_all is_bounded_firing (option_to_list summary.last))

-- one summary for each year after the first ones, in which no rule applies
pub record AreSummaries (offset : ℤ) (rules : List RuleInfo) (quiet : ℕ) (summaries : List Summary) : Type 0 where
  pub none : AppliesToNone rules quiet
  pub most : quiet + length summaries ≤ years_limit
  pub each : (i : ℕ) (d : Summary) → i < length summaries → IsSummary (unended offset rules (quiet + suc i)) (slice_index_or summaries i d)

-- the last of the summaries, or the summary of no firings where there is none
pub record IsLastSummary (summaries : List Summary) (summary : Summary) : Type 0 where
  pub none : length summaries ≡ 0 → (summary.saving ≡ pos 0) × (summary.last ≡ None)
  pub some : (n : ℕ) → length summaries ≡ suc n → summary ≡ slice_index_or summaries n summary

-- the first n summaries have their firings before the second
abbrev pub AreBelow : ℤ → ℕ → List Summary → Type 0
AreBelow second n summaries = (i : ℕ) (d : Summary) → i < n → IsTrue (int_lt (slice_index_or summaries i d).latest second)

-- the firings of all years that have a summary
abbrev pub summed : ℤ → List RuleInfo → ℕ → List Summary → Fired
summed offset rules quiet summaries = unended offset rules (quiet + length summaries)

-- no second before the limit is at or after the end, whatever the saving
abbrev pub IsLimit : Option ChangeTime → ℤ → ℤ → Type 0
IsLimit end offset limit = (saving time : ℤ) → IsTrue (are_small_seconds saving) → IsTrue (int_lt time limit) → is_over end offset saving time ≡ false
