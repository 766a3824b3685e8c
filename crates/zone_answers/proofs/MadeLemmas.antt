-- The made texts, a zone more at a time.
use Rattle.std.{proofs.Common.{◌≡◌, ℕ, suc, ◌+◌, List, [], ◌∷◌, ◌++◌, map, sym, ap, ◌∙◌, append_assoc, append-nil, add-one}, proofs.lemmas.List.{map-append}, proofs.lemmas.Grind.{flat_map-append}, specs.List.{flat_map}}
use Rattle.zone_source.specs.LineLists.{ended}
use Rattle.zone_answers.specs.Made.{numbers_to, rule_lines, zone_line, at_line, local_line, made_source, made_requests}

ended_append : (lines more : List (List ℕ)) → ended (lines ++ more) ≡ ended lines ++ ended more
ended_append lines more = flat_map-append (λ line. line ++ 10 ∷ []) lines more

more_lines : (rules : List (List ℕ)) (line : ℕ → List ℕ) (k : ℕ) →
    ended (rules ++ map line (numbers_to k)) ++ (line (suc k) ++ 10 ∷ []) ≡ ended (rules ++ map line (numbers_to (suc k)))
more_lines rules line k =
    ap (λ t. ended (rules ++ map line (numbers_to k)) ++ t) (sym (append-nil (line (suc k) ++ 10 ∷ [])))
    ∙ sym (ended_append (rules ++ map line (numbers_to k)) (line (suc k) ∷ []))
    ∙ ap ended (append_assoc rules (map line (numbers_to k)) (line (suc k) ∷ []))
    ∙ ap (λ t. ended (rules ++ t)) (sym (map-append line (numbers_to k) (suc k ∷ [])))

pub more_zones : (k : ℕ) → made_source k ++ (zone_line (k + 1) ++ 10 ∷ []) ≡ made_source (k + 1)
unfolding made_source
more_zones k = rw add-one (more_lines rule_lines zone_line k)

more_pairs : (first second : ℕ → List ℕ) (k : ℕ) →
    (ended (flat_map (λ k. first k ∷ second k ∷ []) (numbers_to k)) ++ (first (suc k) ++ 10 ∷ [])) ++ (second (suc k) ++ 10 ∷ [])
    ≡ ended (flat_map (λ k. first k ∷ second k ∷ []) (numbers_to (suc k)))
more_pairs first second k =
    append_assoc (ended before) (first (suc k) ++ 10 ∷ []) (second (suc k) ++ 10 ∷ [])
    ∙ ap (λ t. ended before ++ ((first (suc k) ++ 10 ∷ []) ++ t)) (sym (append-nil (second (suc k) ++ 10 ∷ [])))
    ∙ sym (ended_append before (first (suc k) ∷ second (suc k) ∷ []))
    ∙ ap ended (sym (flat_map-append (λ k. first k ∷ second k ∷ []) (numbers_to k) (suc k ∷ [])))
  where
    before : List (List ℕ)
    before = flat_map (λ k. first k ∷ second k ∷ []) (numbers_to k)

pub more_requests : (k : ℕ) → (made_requests k ++ (at_line (k + 1) ++ 10 ∷ [])) ++ (local_line (k + 1) ++ 10 ∷ []) ≡ made_requests (k + 1)
unfolding made_requests
more_requests k = rw add-one (more_pairs at_line local_line k)
