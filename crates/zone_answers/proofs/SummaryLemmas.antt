-- Lines with their line feeds, counted and summed.
use Rattle.std.{proofs.Common.{◌≡◌, ℕ, ◌+◌, ◌*◌, List, [], ◌∷◌, ◌++◌, length, sum, refl, arith, length-append}, proofs.lemmas.List.Sums.{sum_by-append}, specs.List.{concat}}
use Rattle.zone_source.specs.LineLists.{ended}

-- each line has one line feed
pub length_ended : (lines : List (List ℕ)) → length (ended lines) ≡ length (concat lines) + length lines
length_ended [] = refl
length_ended (line ∷ lines) =
    omega (
      arith,
      length-append (line ++ 10 ∷ []) (ended lines),
      length-append line (10 ∷ []),
      length-append line (concat lines),
      length_ended lines,
    )

sum_append : (xs ys : List ℕ) → sum (xs ++ ys) ≡ sum xs + sum ys
sum_append xs ys = sum_by-append (λ x. x) xs ys

-- which is a byte of 10
pub sum_ended : (lines : List (List ℕ)) → sum (ended lines) ≡ sum (concat lines) + 10 * length lines
sum_ended [] = refl
sum_ended (line ∷ lines) =
    omega (
      arith,
      sum_append (line ++ 10 ∷ []) (ended lines),
      sum_append line (10 ∷ []),
      sum_append line (concat lines),
      sum_ended lines,
    )
