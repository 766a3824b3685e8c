-- Texts cut at a mark, which is a byte.
use Rattle.std.specs.{Prelude.{ℕ, ◌==◌, List, [], ◌∷◌, length, Option, Some, None, option_map, nat_lt, if◌then◌else◌}, List.{before_first, after_first, position_or_len}}

-- what follows the mark, where the text begins with it
abbrev pub after_mark : ℕ → List ℕ → Option (List ℕ)
after_mark mark [] = None
after_mark mark (c ∷ text) = if c == mark then Some text else None

-- what stands before the mark, where the text ends with it
abbrev pub before_mark : ℕ → List ℕ → Option (List ℕ)
before_mark mark [] = None
before_mark mark (c ∷ []) = if c == mark then Some [] else None
before_mark mark (c ∷ d ∷ text) = option_map (λ front. c ∷ front) (before_mark mark (d ∷ text))

-- what stands before the first such mark, and what stands after it
abbrev pub cut : ℕ → List ℕ → Option (List ℕ × List ℕ)
cut mark text =
    if nat_lt (position_or_len (λ c. c == mark) text) (length text)
    then Some (before_first (λ c. c == mark) text, after_first (λ c. c == mark) text)
    else None
