use Rattle.std.proofs.{Common.{◌≡◌, ◌∙◌, ap, refl, sym, map, ℕ, ◌+◌, ◌<◌, ◌++◌, ◌∷◌, [], List, length, get_or, drop, Option, ℤ, Ok, Err, Bor}, lemmas.List.{at_drop_all, at_drop_more}, lemmas.Result.{err_from_is_err_and}}
use Rattle.zone_words.specs.{TimesShown.{asked}, Faults.{Fault, Reading, ◌>>=◌}, Shown.{word_shown}, Values.{instant_in, instants_in}}
use Rattle.zone_words.proofs.values.instants_in.Goals as goal

-- one word more
step : (found : List (Option ℤ)) (words : List (Bor (List ℕ))) (i : ℕ) (d : Bor (List ℕ)) (t : Option ℤ) → i < length words
    → instant_in (word_shown (get_or words i d)) ≡ Ok t
    → instants_in (found ++ t ∷ []) (map word_shown (drop (i + 1) words)) ≡ instants_in found (map word_shown (drop i words))
step found words i d t l e =
    sym (at_drop_more (λ ws. instants_in found (map word_shown ws)) words i d l
    ∙ ap (λ r. r >>= (λ t. instants_in (found ++ t ∷ []) (map word_shown (drop (i + 1) words)))) e)

-- the fault of a word
fault : (found : List (Option ℤ)) (words : List (Bor (List ℕ))) (i : ℕ) (d : Bor (List ℕ)) (f : Fault) → i < length words
    → (let r : Reading (Option ℤ) = Err f in r ≡ instant_in (word_shown (get_or words i d)))
    → (let r : Reading (List (Option ℤ)) = Err f in r ≡ instants_in found (map word_shown (drop i words)))
fault found words i d f l e =
    sym (at_drop_more (λ ws. instants_in found (map word_shown ws)) words i d l
    ∙ ap (λ r. r >>= (λ t. instants_in (found ++ t ∷ []) (map word_shown (drop (i + 1) words)))) (sym e))

pub returns-in_err-instant : goal.returns-in_err-instant
returns-in_err-instant c =
    let p = err_from_is_err_and c.from_residual.result c.from_residual.ensures.1 in
    rw (p.1, p.2) (λ short. fault (map asked c.loop-word.found.items) c.args.words.now c.loop-word.word-index _ _ c.loop-word-test.true
    (c.in_err-instant.ensures short) ∙ c.loop-word.invariant)

pub loop-word-preserved : goal.loop-word-preserved
loop-word-preserved c =
    ap (λ found. instants_in found (map word_shown (drop (c.loop-word.word-index + 1) c.args.words.now))) c.in_ok-add_instant.ensures
    ∙ step (map asked c.loop-word.found.items) c.args.words.now c.loop-word.word-index _ (asked c.in_ok-instant.instant)
    c.loop-word-test.true (sym (c.in_ok-instant.ensures refl))
    ∙ c.loop-word.invariant

pub returns : goal.returns
returns c _ =
    sym (at_drop_all (λ ws. instants_in (map asked c.loop-word.found.items) (map word_shown ws)) c.args.words.now c.loop-word.word-index
    c.loop-word-test.false) ∙ c.loop-word.invariant
