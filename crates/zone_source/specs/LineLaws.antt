-- A piece before other pieces is a line, whatever stands in it.
use Rattle.std.proofs.Common.{◌≡◌, ℕ, ◌<◌, List, [], ◌∷◌, length, refl, arith}
use Rattle.zone_source.specs.Lines.{without_last_empty}

pub without_last_empty-more : (piece : List ℕ) (pieces : List (List ℕ)) → 0 < length pieces
    → without_last_empty (piece ∷ pieces) ≡ piece ∷ without_last_empty pieces
without_last_empty-more [] [] h = absurd (omega arith)
without_last_empty-more [] (q ∷ qs) h = refl
without_last_empty-more (x ∷ xs) pieces h = refl
