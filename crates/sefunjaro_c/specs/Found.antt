-- One instant of each of some local times.
use Rattle.std.specs.Prelude.{◌≡◌, ◌⊎◌, ℕ, ℤ, List, Option, Some, None, ◌==◌, if◌then◌else◌}
use Rattle.sefunjaro.specs.{Found.{AreFound, AreLocalTimes, IsFirstFaulty}, declared.clock.Clock.{Clock}, declared.found.FoldRule.{FoldRule}, declared.found.FoldRule.TheVariants.{First, Second}, declared.found.Found.{Found}, declared.found.GapRule.{GapRule}}
use Rattle.sefunjaro.specs.declared.found.GapRule.TheVariants as gap_rule
use Rattle.sefunjaro_c.specs.Statuses.{done, out_of_range}

-- the rules by their numbers
abbrev pub fold_of : ℕ → Option FoldRule
fold_of number = if number == 0 then Some First else (if number == 1 then Some Second else None)

abbrev pub gap_of : ℕ → Option GapRule
gap_of number = if number == 0 then Some gap_rule.Before else (if number == 1 then Some gap_rule.After else (if number == 2 then Some gap_rule.None else None))

-- two rules are answered by; numbers that are none are out of range, and what is kept is kept
abbrev pub OfRules : Option FoldRule → Option GapRule → ℕ → Type 0 → (FoldRule → GapRule → Type 0) → Type 0
OfRules (Some fold) (Some gap) status kept P = P fold gap
OfRules (Some fold) None status kept P = (status ≡ out_of_range) × kept
OfRules None gap status kept P = (status ≡ out_of_range) × kept

-- what is found of parts that are all local times; or the place of the first that is none is told
abbrev pub AreInstantsTold : (ℤ → ℤ) → FoldRule → GapRule → List Clock → ℕ → List Found → List Found → ℕ → ℕ → Type 0
AreInstantsTold total fold gap clocks status old new was place =
    ((status ≡ done) × ((place ≡ was) × (AreLocalTimes clocks × AreFound total fold gap clocks old new)))
    ⊎ ((status ≡ out_of_range) × (IsFirstFaulty clocks place × (new ≡ old)))
