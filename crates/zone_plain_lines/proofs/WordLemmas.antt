-- What stands for the words of a list that are left.
use Rattle.std.proofs.Common.{◌≡◌, ℕ, List, [], ◌∷◌, map, drop, Option, Some, None, filter, Bor}
use Rattle.zone_plain_lines.specs.Words.{Word, begins, alone, meant, shown}

-- what words that are to come stand for, where one was found, or none
abbrev pub alone_after : {A : Type 0} → Option A → List (Word A) → Option A
alone_after None words = alone words
alone_after (Some found) [] = Some found
alone_after (Some found) (word ∷ words) = None

-- what was found, with the words that are left, is what all stand for
abbrev pub IsSoFar : {A : Type 0} → List (Bor (List ℕ) × A) → List ℕ → Option A → ℕ → Type 0
IsSoFar words text found i =
    alone_after found (filter (λ word. begins text word.0) (map shown (drop i words))) ≡ meant (map shown words) text
