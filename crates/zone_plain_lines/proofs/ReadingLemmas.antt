-- The values of the lines that were read.
use Rattle.std.proofs.{Common.{◌≡◌, ◌==◌, ℕ, ◌+◌, ◌<◌, List, [], ◌∷◌, ◌++◌, map, length, take, get_or, true, refl, sym, ap, ◌∙◌, arith}, lemmas.Bool.{eqb-true}, lemmas.List.{get_or-map, length-map, map-append, take_more}}
use Rattle.zone_table.specs.{declared.line.Line.{Line}, Values.{line_value}}
use Rattle.zone_source.specs.Zones.{source_value}

-- the first lines were read, and one more
pub one_read : (lines : List (List ℕ)) (items : List Line) (line : Line) (i : ℕ) → i < length lines
    → map line_value items ≡ take i (map source_value lines) → line_value line ≡ source_value (get_or lines i [])
    → map line_value (items ++ line ∷ []) ≡ take (i + 1) (map source_value lines)
one_read lines items line i inside so_far is =
    let few : i < length (map source_value lines) = omega (arith, inside, length-map lines source_value) in
    map-append line_value items (line ∷ []) ∙ ap (λ vs. vs ++ line_value line ∷ []) so_far
    ∙ ap (λ v. take i (map source_value lines) ++ v ∷ []) (is ∙ sym (get_or-map source_value lines i [] (source_value []) inside))
    ∙ sym (take_more (map source_value lines) i (source_value []) few)

-- a text of no length
pub nothing_in : (text : List ℕ) → (length text == 0) ≡ true → text ≡ []
nothing_in [] e = refl
nothing_in (byte ∷ text) e = absurd (omega (arith, eqb-true _ _ e))
