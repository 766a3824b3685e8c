-- What a search for `%s` and for a slash says of a text.
use Rattle.std.{proofs.Common.{◌≡◌, ℕ, Bool, true, false, ◌||◌, List, [], ◌∷◌, ◌++◌, refl, sym, ap, ◌∙◌, codes, arith, true≢false}, proofs.Math.Bool.{or-true}, specs.Str.Iter.{HasSubslice}}
use Rattle.zone_table.specs.Formats.{is_placeholder, has_placeholder}

pub has_placeholder-within : (before after : List ℕ) → has_placeholder (before ++ (codes "%s" ++ after)) ≡ true
unfolding has_placeholder
has_placeholder-within [] after = refl
has_placeholder-within (x ∷ []) after = or-true (is_placeholder x 37)
has_placeholder-within (x ∷ y ∷ before) after =
    ap (λ b. is_placeholder x y || b) (has_placeholder-within (y ∷ before) after) ∙ or-true (is_placeholder x y)

placeholder_here : (x y : ℕ) (rest : List ℕ) → is_placeholder x y ≡ true → HasSubslice (x ∷ y ∷ rest) (codes "%s")
placeholder_here x y rest here =
    let first : x ≡ 37 = grind arith in
    let second : y ≡ 115 = grind arith in
    ([], rest, (λ i. first i ∷ second i ∷ rest))

pub placeholder_within : (text : List ℕ) → has_placeholder text ≡ true → HasSubslice text (codes "%s")
unfolding has_placeholder
placeholder_within [] there = absurd (true≢false (sym there))
placeholder_within (x ∷ []) there = absurd (true≢false (sym there))
placeholder_within (x ∷ y ∷ rest) there = by (is_placeholder x y) refl there (placeholder_within (y ∷ rest))
  where
    by : (b : Bool) → is_placeholder x y ≡ b → (b || has_placeholder (y ∷ rest)) ≡ true
        → (has_placeholder (y ∷ rest) ≡ true → HasSubslice (y ∷ rest) (codes "%s")) → HasSubslice (x ∷ y ∷ rest) (codes "%s")
    by true here there later = placeholder_here x y rest here
    by false apart there later =
        let found = later there in
        (x ∷ found.0, found.1, ap (λ l. x ∷ l) found.2)
