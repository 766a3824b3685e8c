-- Worked rows: texts that are one line of a source as they stand.
use Rattle.std.{proofs.Common.{◌≡◌, ℕ, List, [], ◌∷◌, ◌++◌, true, false, map, refl}, specs.Prelude.{codes}}
use Rattle.zone_source.specs.Lines.{lines_of}
use Rattle.zone_plain_lines.specs.Said.{is_one_line}

-- a line, nothing, a carriage return within; a line feed within and at the end, a carriage return at the end and alone
abbrev texts : List (List ℕ)
texts = codes "Link A B" ∷ [] ∷ (65 ∷ 13 ∷ 66 ∷ []) ∷ (65 ∷ 10 ∷ 66 ∷ []) ∷ (65 ∷ 10 ∷ []) ∷ (65 ∷ 13 ∷ []) ∷ (13 ∷ []) ∷ []

one_lines : map is_one_line texts ≡ true ∷ true ∷ true ∷ false ∷ false ∷ false ∷ false ∷ []
one_lines = refl

-- a sharp anywhere would be a comment's
with_sharps : map is_one_line (codes "Link A x#y" ∷ codes "Link A #" ∷ codes "#" ∷ codes "Link A x" ∷ []) ≡ false ∷ false ∷ false ∷ true ∷ []
with_sharps = refl

-- the lines of a source of each and a line feed: the first three are their own one line
their_lines : map (λ text. lines_of (text ++ 10 ∷ [])) texts
    ≡ (codes "Link A B" ∷ []) ∷ ([] ∷ []) ∷ ((65 ∷ 13 ∷ 66 ∷ []) ∷ []) ∷ ((65 ∷ []) ∷ (66 ∷ []) ∷ []) ∷ ((65 ∷ []) ∷ [] ∷ []) ∷ ((65 ∷ []) ∷ []) ∷ ([] ∷ []) ∷ []
unfolding lines_of
their_lines = refl
