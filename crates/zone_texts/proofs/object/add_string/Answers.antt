use Rattle.std.proofs.{Common.{◌≡◌, ℕ, ◌+◌, ◌<◌, ◌≤◌, List, [], ◌∷◌, ◌++◌, length, take, slice_index_or, Result, Ok, Err, append_assoc, append-nil, refl, ap, sym, ◌∙◌}, lemmas.Grind.{flat_map-append}, lemmas.List.{take_all, take_at, take_more}}
use Rattle.std.specs.{List.{flat_map}, Result.{OnErr}}
use Rattle.zone_texts.specs.Objects.{escaped, quoted}
use Rattle.zone_texts.proofs.object.add_string.Goals as goal

-- a string so far, with one byte more
more : (old now new bytes : List ℕ) (n : ℕ) → n < length bytes → now ≡ old ++ (34 ∷ flat_map escaped (take n bytes))
    → new ≡ now ++ escaped (slice_index_or bytes n 0) → new ≡ old ++ (34 ∷ flat_map escaped (take (n + 1) bytes))
more old now new bytes n l was added =
    let text = escaped (slice_index_or bytes n 0) in
    added ∙ ap (λ t. t ++ text) was ∙ append_assoc old (34 ∷ flat_map escaped (take n bytes)) text
    ∙ ap (λ t. old ++ (34 ∷ (flat_map escaped (take n bytes) ++ t))) (sym (append-nil text))
    ∙ ap (λ t. old ++ (34 ∷ t)) (sym (flat_map-append escaped (take n bytes) (slice_index_or bytes n 0 ∷ [])))
    ∙ ap (λ bs. old ++ (34 ∷ flat_map escaped bs)) (sym (take_more bytes n 0 l))

-- the whole string
whole : (old now new bytes text : List ℕ) (n : ℕ) → length bytes ≤ n → bytes ≡ text → now ≡ old ++ (34 ∷ flat_map escaped (take n bytes))
    → new ≡ now ++ 34 ∷ [] → new ≡ old ++ quoted text
unfolding quoted
whole old now new bytes text n l is was added =
    added ∙ ap (λ t. t ++ 34 ∷ []) was ∙ append_assoc old (34 ∷ flat_map escaped (take n bytes)) (34 ∷ [])
    ∙ ap (λ bs. old ++ (34 ∷ (flat_map escaped bs ++ 34 ∷ []))) (take_all n bytes l ∙ is)

-- what stood before stands there still
kept : {T E : Type 0} → (r : Result T E) (old now new rest : List ℕ) → now ≡ old ++ rest → new ≡ now → OnErr r (take (length old) new ≡ old)
kept (Ok x) old now new rest was same = tt
kept (Err e) old now new rest was same = ap (take (length old)) (same ∙ was) ∙ take_at old rest (length old) refl

pub loop-byte-preserved : goal.loop-byte-preserved
loop-byte-preserved c =
    more c.args.into.now.items c.loop-byte.into.items _ c.as_bytes-byte-items.result.now c.loop-byte.byte-index c.loop-byte-test.true
    c.loop-byte.invariant c.in_ok-add_escaped.ensures

pub returns-in_err-add_escaped-clause-err : goal.returns-in_err-add_escaped-clause-err
returns-in_err-add_escaped-clause-err c =
    kept c.from_residual-in_err-add_escaped.result c.args.into.now.items c.loop-byte.into.items _ _ c.loop-byte.invariant c.in_err-add_escaped.ensures

pub returns-in_err-extend_from_slice-2-clause-err : goal.returns-in_err-extend_from_slice-2-clause-err
returns-in_err-extend_from_slice-2-clause-err c =
    kept c.from_residual-in_err-extend_from_slice-2.result c.args.into.now.items c.loop-byte.into.items _ _ c.loop-byte.invariant
    c.in_err-extend_from_slice-2.ensures.items

pub returns-clause-ok : goal.returns-clause-ok
returns-clause-ok c =
    whole c.args.into.now.items c.loop-byte.into.items _ c.as_bytes-byte-items.result.now c.args.text.now c.loop-byte.byte-index c.loop-byte-test.false
    c.as_bytes-byte-items.ensures.value c.loop-byte.invariant c.in_ok-extend_from_slice-2.ensures.items
