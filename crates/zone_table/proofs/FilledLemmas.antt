-- What `replace` makes of a text with `%s` in it.
use Rattle.std.proofs.{Common.{◌≡◌, ℕ, zero, suc, ◌<◌, ◌≤◌, Bool, true, false, ◌&&◌, ◌==◌, subst, List, [], ◌∷◌, ◌++◌, length, take, drop, refl, sym, ap, ◌∙◌, codes, arith, inl, inr, Some, None, take-append-drop, Bor}, Math.Bool.{and-false}}
use Rattle.std.proofs.lemmas.{Bool.{cases_Bool}, Grind.{common_steps}}
use Rattle.std.specs.Str.{Pattern.{FindsText, LacksTextAt}, Replace.{ReplacesMatches}}
use Rattle.zone_table.specs.Formats.{is_placeholder, filled}

-- two bytes that begin a text without `%s` at its front are not `%s`
apart : (x y : ℕ) (rest : List ℕ) → LacksTextAt (codes "%s") (x ∷ y ∷ rest) 0 → is_placeholder x y ≡ false
apart x y rest lacks = elim (cases_Bool (is_placeholder x y)) [
  | inl here ↦
      let first : x ≡ 37 = grind arith in
      let second : y ≡ 115 = grind arith in
      absurd (lacks rest (λ i. first i ∷ second i ∷ rest))
  | inr other ↦ other
]

-- a text without `%s` stays as it is
pub filled-none : (letters text : List ℕ) → ((i : ℕ) → i ≤ length text → LacksTextAt (codes "%s") text i) → filled letters text ≡ text
unfolding filled
filled-none letters [] lacks = refl
filled-none letters (x ∷ []) lacks = refl
filled-none letters (x ∷ y ∷ rest) lacks =
    rw (apart x y rest (lacks 0 (omega arith)))
    (ap (λ l. x ∷ l) (filled-none letters (y ∷ rest) (λ i low. lacks (suc i) (omega arith))))

-- the letters stand for the first `%s`, and what follows it is filled
pub filled-first : (letters before after : List ℕ)
    → ((i : ℕ) → i < length before → LacksTextAt (codes "%s") (before ++ (codes "%s" ++ after)) i)
    → filled letters (before ++ (codes "%s" ++ after)) ≡ before ++ (letters ++ filled letters after)
unfolding filled
filled-first letters [] after lacks = refl
filled-first letters (x ∷ []) after lacks = rw (and-false (x == 37)) refl
filled-first letters (x ∷ y ∷ before) after lacks =
    rw (apart x y (before ++ (codes "%s" ++ after)) (lacks 0 (omega arith)))
    (ap (λ l. x ∷ l) (filled-first letters (y ∷ before) after (λ i low. lacks (suc i) (omega arith))))

-- so it is with a text that is cut around the first `%s`
pub filled-cut : (letters text : List ℕ) (a b : ℕ) → FindsText (codes "%s") text (Some (a, b))
    → filled letters text ≡ take a text ++ (letters ++ filled letters (drop b text))
filled-cut letters text a b found =
    let cut : text ≡ take a text ++ (codes "%s" ++ drop b text) =
    sym (take-append-drop a text) ∙ ap (λ l. take a text ++ l) found.1.split in
    let long : length (drop a text) ≡ length (codes "%s" ++ drop b text) = ap length found.1.split in
    let size : length (take a text) ≡ a = grind (arith, common_steps, long) in
    ap (filled letters) cut
    ∙ filled-first letters (take a text) (drop b text) (λ i low rest here. found.0 i (omega arith) rest (ap (drop i) cut ∙ here))

pub replaced : (letters pattern : Bor (List ℕ)) (n : ℕ) (text whole : List ℕ) → pattern.now ≡ codes "%s"
    → ReplacesMatches (λ p. FindsText p.now) (λ p q. q.now ≡ p.now) letters.now n pattern text whole → whole ≡ filled letters.now text
replaced letters pattern zero text whole named gives =
    let lacks = subst (λ (p : List ℕ). FindsText p text None) named gives.0 in
    gives.1 ∙ sym (filled-none letters.now text lacks)
replaced letters pattern (suc n) text whole named gives =
    let found = subst (λ (p : List ℕ). FindsText p text (Some (gives.0, gives.1))) named gives.4 in
    let rest : gives.3 ≡ filled letters.now (drop gives.1 text) = elim gives.6 [
      | inl later ↦ replaced letters gives.2 n (drop gives.1 text) gives.3 (gives.5 ∙ named) later.1
      | inr empty ↦ absurd (omega (arith, empty.0, found.1.ends))
    ] in
    gives.7 ∙ ap (λ l. take gives.0 text ++ (letters.now ++ l)) rest ∙ sym (filled-cut letters.now text gives.0 gives.1 found)
