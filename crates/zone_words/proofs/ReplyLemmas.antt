-- Answers to lines that come in pieces.
use Rattle.std.{proofs.Common.{◌≡◌, refl, sym, ap, ◌∙◌, ℕ, suc, ◌+◌, Bool, ◌||◌, List, [], ◌∷◌, ◌++◌, take, Result, Ok, Err, IfOk, OnOk}, proofs.lemmas.List.Folds.{list_any-append}, proofs.lemmas.Grind.{flat_map-append}, specs.List.{flat_map, list_any}}
use Rattle.zone_words.{proofs.LineLemmas.{answer_short, fails_short, answers_behind, fails_behind, lines_join, open_short}, specs.{Filters.{Grows, Closes, replied}, Lines.{lines_behind, open_behind, open_line, whole_lines, last_line}, Replies.{Replies, answer, fails, longest, answers, any_fails}}}

-- what is held goes on with a piece
pub held_on : (held fed piece : List ℕ) → held ≡ take 4098 (open_line fed) → take 4098 (open_behind held piece) ≡ take 4098 (open_line (fed ++ piece))
held_on held fed piece is =
    ap (λ front. take 4098 (open_behind front piece)) is ∙ open_short 4098 (open_line fed) piece ∙ ap (take 4098) (sym (lines_join [] fed piece).1)

-- and the answers to the lines that are whole then
pub answers_on : (replies : Replies) (held fed piece : List ℕ) → held ≡ take 4098 (open_line fed) →
    answers replies (whole_lines (fed ++ piece)) ≡ answers replies (whole_lines fed) ++ answers replies (lines_behind held piece)
answers_on replies held fed piece is =
    ap (answers replies) (lines_join [] fed piece).0 ∙ flat_map-append (answer longest replies) (whole_lines fed) (lines_behind (open_line fed) piece)
    ∙ ap (λ more. answers replies (whole_lines fed) ++ more)
    (sym (answers_behind longest replies (open_line fed) piece) ∙ ap (λ front. answers replies (lines_behind front piece)) (sym is))

pub fails_on : (replies : Replies) (held fed piece : List ℕ) → held ≡ take 4098 (open_line fed) →
    any_fails replies (whole_lines (fed ++ piece)) ≡ (any_fails replies (whole_lines fed) || any_fails replies (lines_behind held piece))
fails_on replies held fed piece is =
    ap (any_fails replies) (lines_join [] fed piece).0 ∙ list_any-append (fails longest replies) (whole_lines fed) (lines_behind (open_line fed) piece)
    ∙ ap (λ more. any_fails replies (whole_lines fed) || more)
    (sym (fails_behind longest replies (open_line fed) piece) ∙ ap (λ front. any_fails replies (lines_behind front piece)) (sym is))

answers_last : (limit n : ℕ) → suc n ≡ limit + 2 → (replies : Replies) (line : List ℕ) →
    flat_map (answer limit replies) (last_line (take (suc n) line)) ≡ flat_map (answer limit replies) (last_line line)
answers_last limit n e replies [] = refl
answers_last limit n e replies (c ∷ line) =
    ap (λ answered. answered ++ []) (ap (λ k. answer limit replies (take k (c ∷ line))) e ∙ answer_short limit replies (c ∷ line))

fails_last : (limit n : ℕ) → suc n ≡ limit + 2 → (replies : Replies) (line : List ℕ) →
    list_any (fails limit replies) (last_line (take (suc n) line)) ≡ list_any (fails limit replies) (last_line line)
fails_last limit n e replies [] = refl
fails_last limit n e replies (c ∷ line) =
    ap (λ is. is || list_any (fails limit replies) []) (ap (λ k. fails limit replies (take k (c ∷ line))) e ∙ fails_short limit replies (c ∷ line))

-- so what was fed grows by the piece, and the output by what is due
pub fed_on : {E : Type 0} (held held_now piece : List ℕ) (r : Result Bool E) → OnOk r (held_now ≡ take 4098 (open_behind held piece)) →
    IfOk r (λ fault. (fed : List ℕ) → held ≡ take 4098 (open_line fed) → held_now ≡ take 4098 (open_line (fed ++ piece)))
fed_on held held_now piece (Ok fault) now = λ fed is. now ∙ held_on held fed piece is
fed_on held held_now piece (Err e) now = tt

pub feeds : {E : Type 0} (replies : Replies) (held piece output output_now : List ℕ) (r : Result Bool E) →
    OnOk r (output_now ≡ output ++ answers replies (lines_behind held piece)) → IfOk r (λ fault. fault ≡ any_fails replies (lines_behind held piece)) →
    IfOk r (λ fault. (fed : List ℕ) → held ≡ take 4098 (open_line fed) → Grows (replied replies) fed piece output output_now fault)
feeds replies held piece output output_now (Ok fault) added failed = λ fed is. record {
  more = answers replies (lines_behind held piece);
  added = added;
  due = answers_on replies held fed piece is;
  faults = fails_on replies held fed piece is ∙ ap (λ b. any_fails replies (whole_lines fed) || b) (sym failed);
}
feeds replies held piece output output_now (Err e) added failed = tt

pub closes : {E : Type 0} (replies : Replies) (held output output_now : List ℕ) (r : Result Bool E) →
    OnOk r (output_now ≡ output ++ answers replies (last_line held)) → IfOk r (λ fault. fault ≡ any_fails replies (last_line held)) →
    IfOk r (λ fault. (fed : List ℕ) → held ≡ take 4098 (open_line fed) → Closes (replied replies) fed output output_now fault)
closes replies held output output_now (Ok fault) added failed = λ fed is. record {
  added = added ∙ ap (λ more. output ++ more) (ap (λ front. answers replies (last_line front)) is ∙ answers_last longest 4097 refl replies (open_line fed));
  faults = failed ∙ ap (λ front. any_fails replies (last_line front)) is ∙ fails_last longest 4097 refl replies (open_line fed);
}
closes replies held output output_now (Err e) added failed = tt
