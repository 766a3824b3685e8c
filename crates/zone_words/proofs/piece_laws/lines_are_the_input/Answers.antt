use Rattle.std.{proofs.Common.{◌≡◌, refl, sym, ap, ◌∙◌, arith, Bool, true, false, cond, not, ℕ, List, [], ◌∷◌, ◌++◌, append_assoc, append-nil}, proofs.lemmas.Bool.{and_parts}, proofs.lemmas.Bool.Decides.{nat_tests}, specs.List.{flat_map, list_all}}
use Rattle.zone_words.specs.Lines.{is_line_feed, lines_behind, open_behind}
use Rattle.zone_words.proofs.piece_laws.lines_are_the_input.Goals as goal

ended : List (List ℕ) → List ℕ
ended lines = flat_map (λ line. line ++ 10 ∷ []) lines

is_feed : (c : ℕ) → is_line_feed c ≡ true → c ≡ 10
is_feed c is = grind (arith, nat_tests)

joined : (begun input : List ℕ) → ended (lines_behind begun input) ++ open_behind begun input ≡ begun ++ input
unfolding lines_behind open_behind ended
joined begun [] = sym (append-nil begun)
joined begun (c ∷ input) = by_head (is_line_feed c) refl (joined [] input) (joined (begun ++ c ∷ []) input)
  where
    by_head : (b : Bool) → is_line_feed c ≡ b →
        ended (lines_behind [] input) ++ open_behind [] input ≡ input →
        ended (lines_behind (begun ++ c ∷ []) input) ++ open_behind (begun ++ c ∷ []) input ≡ (begun ++ c ∷ []) ++ input →
        ended (cond b (begun ∷ lines_behind [] input) (lines_behind (begun ++ c ∷ []) input))
        ++ cond b (open_behind [] input) (open_behind (begun ++ c ∷ []) input) ≡ begun ++ (c ∷ input)
    by_head true is after more =
        append_assoc (begun ++ 10 ∷ []) (ended (lines_behind [] input)) (open_behind [] input) ∙ ap (λ l. (begun ++ 10 ∷ []) ++ l) after
        ∙ append_assoc begun (10 ∷ []) input ∙ ap (λ x. begun ++ (x ∷ input)) (sym (is_feed c is))
    by_head false is after more = more ∙ append_assoc begun (c ∷ []) input

pub returns-clause-whole : goal.returns-clause-whole
unfolding ended
returns-clause-whole c = λ input. joined [] input

not_true : (b : Bool) → not b ≡ true → b ≡ false
not_true true e = cc
not_true false e = refl

-- a line without an LF, and then what follows
one_line : (begun line then : List ℕ) → list_all (λ c. not (is_line_feed c)) line ≡ true →
    (lines_behind begun (line ++ (10 ∷ then)) ≡ (begun ++ line) ∷ lines_behind [] then) × (open_behind begun (line ++ (10 ∷ then)) ≡ open_behind [] then)
unfolding lines_behind open_behind
one_line begun [] then none = rw append-nil (refl, refl)
one_line begun (c ∷ line) then none =
    let parts = and_parts (not (is_line_feed c)) _ none in
    rw (not_true (is_line_feed c) parts.0, ← append_assoc begun (c ∷ []) line) (one_line (begun ++ c ∷ []) line then parts.1)

no_line : (begun rest : List ℕ) → list_all (λ c. not (is_line_feed c)) rest ≡ true →
    (lines_behind begun rest ≡ []) × (open_behind begun rest ≡ begun ++ rest)
unfolding lines_behind open_behind
no_line begun [] none = (refl, sym (append-nil begun))
no_line begun (c ∷ rest) none =
    let parts = and_parts (not (is_line_feed c)) _ none in
    let more = no_line (begun ++ c ∷ []) rest parts.1 in
    rw (not_true (is_line_feed c) parts.0) (more.0, more.1 ∙ append_assoc begun (c ∷ []) rest)

cut_again : (lines : List (List ℕ)) (rest : List ℕ) → list_all (λ c. not (is_line_feed c)) rest ≡ true → list_all (list_all (λ c. not (is_line_feed c))) lines ≡ true →
    (lines_behind [] (flat_map (λ line. line ++ 10 ∷ []) lines ++ rest) ≡ lines)
    × (open_behind [] (flat_map (λ line. line ++ 10 ∷ []) lines ++ rest) ≡ rest)
cut_again [] rest last none = no_line [] rest last
cut_again (line ∷ lines) rest last none =
    let parts = and_parts (list_all (λ c. not (is_line_feed c)) line) _ none in
    let more = cut_again lines rest last parts.1 in
    let one = one_line [] line (flat_map (λ line. line ++ 10 ∷ []) lines ++ rest) parts.0 in
    let laid : ((line ++ 10 ∷ []) ++ flat_map (λ line. line ++ 10 ∷ []) lines) ++ rest ≡ line ++ (10 ∷ (flat_map (λ line. line ++ 10 ∷ []) lines ++ rest)) =
    append_assoc (line ++ 10 ∷ []) _ rest ∙ append_assoc line (10 ∷ []) _ in (
      ap (lines_behind []) laid ∙ one.0 ∙ ap (λ l. line ∷ l) more.0,
      ap (open_behind []) laid ∙ one.1 ∙ more.1,
    )

pub returns-clause-only : goal.returns-clause-only
returns-clause-only c = λ lines rest all.
    let parts = and_parts (list_all (λ c. not (is_line_feed c)) rest) _ all in
    cut_again lines rest parts.0 parts.1
