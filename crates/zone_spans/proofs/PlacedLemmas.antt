-- The rules that apply to a year, by places and by marks.
use Rattle.std.proofs.{Common.{◌≡◌, ℕ, suc, ◌+◌, ◌<◌, ◌≤◌, Bool, true, false, cond, List, [], ◌∷◌, ◌++◌, length, get_or, map, take, filter, ℤ, pos, int_cmp, is_lt, refl, sym, ap, ◌∙◌, arith}, lemmas.List.{append-nil, length-take-le, take_more}}
use Rattle.std.proofs.lemmas.List.Elements.{filter-append}
use Rattle.std.specs.List.{AllByRecursion}
use Rattle.zone_table.specs.{Moments.{applies_to_year, moment}, declared.rule.RuleInfo.{RuleInfo}, declared.time.TimeType.TheVariants.{Wall, Standard, UTC}}
use Rattle.zone_spans.{specs.Fronts.{by_mark, has_mark, is_below, with_placed}, specs.Placed.{Placed, placed_at, placed_from}, proofs.FiringLemmas.{less_is}}

pub below_is : (a b : Placed) → is_lt (int_cmp a.local b.local) ≡ is_below a b
below_is a b = less_is a.local b.local

-- one rule more
placed_more : (year : ℤ) (n : ℕ) (rs : List RuleInfo) (r : RuleInfo) → placed_from year n (rs ++ r ∷ [])
    ≡ placed_from year n rs ++ cond (applies_to_year r year) (placed_at year (n + length rs) r ∷ []) []
placed_more year n [] r =
    let here : n ≡ n + 0 = omega arith in ap (λ k. cond (applies_to_year r year) (placed_at year k r ∷ []) []) here
placed_more year n (q ∷ rs) r =
    let at : suc n + length rs ≡ n + suc (length rs) = omega arith in
    let more = placed_more year (suc n) rs r
    ∙ ap (λ k. placed_from year (suc n) rs ++ cond (applies_to_year r year) (placed_at year k r ∷ []) []) at in
    elim (applies_to_year q year) as (λ b. cond b (placed_at year n q ∷ placed_from year (suc n) (rs ++ r ∷ [])) (placed_from year (suc n) (rs ++ r ∷ []))
    ≡ cond b (placed_at year n q ∷ placed_from year (suc n) rs) (placed_from year (suc n) rs)
    ++ cond (applies_to_year r year) (placed_at year (n + suc (length rs)) r ∷ []) []) [
      | true ↦ ap (λ ps. placed_at year n q ∷ ps) more
      | false ↦ more
    ]

filter_more : (test : Placed → Bool) (ps : List Placed) (p : Placed)
    → filter test (ps ++ p ∷ []) ≡ cond (test p) (filter test ps ++ p ∷ []) (filter test ps)
filter_more test ps p =
    filter-append test ps (p ∷ [])
    ∙ elim (test p) as (λ b. filter test ps ++ cond b (p ∷ []) [] ≡ cond b (filter test ps ++ p ∷ []) (filter test ps)) [
      | true ↦ refl
      | false ↦ append-nil (filter test ps)
    ]

-- the rules up to a place, by their marks
pub applying_more : (year : ℤ) (rules : List RuleInfo) (i : ℕ) (r : RuleInfo) → i < length rules → r ≡ get_or rules i r
    → by_mark (placed_from year 0 (take (i + 1) rules))
    ≡ cond (applies_to_year r year) (with_placed (placed_at year i r) (by_mark (placed_from year 0 (take i rules))))
    (by_mark (placed_from year 0 (take i rules)))
applying_more year rules i r l is =
    let before = placed_from year 0 (take i rules) in
    let len : 0 + length (take i rules) ≡ i = omega (arith, length-take-le i rules (omega (arith, l))) in
    let p = placed_at year i r in
    ap (λ rs. by_mark (placed_from year 0 rs)) (take_more rules i r l ∙ ap (λ x. take i rules ++ x ∷ []) (sym is))
    ∙ ap by_mark (placed_more year 0 (take i rules) r)
    ∙ ap (λ k. by_mark (before ++ cond (applies_to_year r year) (placed_at year k r ∷ []) [])) len
    ∙ elim (applies_to_year r year) as (λ b. by_mark (before ++ cond b (p ∷ []) []) ≡ cond b (with_placed p (by_mark before)) (by_mark before)) [
      | true ↦ λ j. record {
        wall = filter_more (has_mark Wall) before p j;
        standard = filter_more (has_mark Standard) before p j;
        utc = filter_more (has_mark UTC) before p j;
      }
      | false ↦ ap by_mark (append-nil before)
    ]

-- its second in that year
abbrev pub IsAt : ℤ → Placed → Type 0
IsAt year p = p.local ≡ moment p.rule year (pos 0) (pos 0)

-- places rise
abbrev pub Rises : List Placed → Type 0
Rises [] = Unit {0}
Rises (p ∷ ps) = AllByRecursion (λ q. p.place < q.place) ps × Rises ps

rises_from : (year : ℤ) (n m : ℕ) (rs : List RuleInfo) → n < m → AllByRecursion (λ (q : Placed). n < q.place) (placed_from year m rs)
rises_from year n m [] h = tt
rises_from year n m (r ∷ rs) h =
    let later = rises_from year n (suc m) rs (omega (arith, h)) in
    elim (applies_to_year r year) as (λ b. AllByRecursion (λ (q : Placed). n < q.place) (cond b (placed_at year m r ∷ placed_from year (suc m) rs)
    (placed_from year (suc m) rs))) [ true ↦ (h, later) | false ↦ later ]

pub placed_rises : (year : ℤ) (n : ℕ) (rs : List RuleInfo) → Rises (placed_from year n rs)
placed_rises year n [] = tt
placed_rises year n (r ∷ rs) =
    let later = placed_rises year (suc n) rs in
    elim (applies_to_year r year) as (λ b. Rises (cond b (placed_at year n r ∷ placed_from year (suc n) rs) (placed_from year (suc n) rs))) [
      | true ↦ (rises_from year n (suc n) rs (omega arith), later)
      | false ↦ later
    ]

pub all_at : (year : ℤ) (n : ℕ) (rs : List RuleInfo) → AllByRecursion (IsAt year) (placed_from year n rs)
all_at year n [] = tt
all_at year n (r ∷ rs) =
    let later = all_at year (suc n) rs in
    elim (applies_to_year r year) as (λ b. AllByRecursion (IsAt year) (cond b (placed_at year n r ∷ placed_from year (suc n) rs)
    (placed_from year (suc n) rs))) [ true ↦ (refl, later) | false ↦ later ]

pub placed_rules : (year : ℤ) (n : ℕ) (rs : List RuleInfo) → map (λ p. p.rule) (placed_from year n rs) ≡ filter (λ r. applies_to_year r year) rs
placed_rules year n [] = refl
placed_rules year n (r ∷ rs) =
    let later = placed_rules year (suc n) rs in
    let others = filter (λ r. applies_to_year r year) rs in
    elim (applies_to_year r year) as (λ b. map (λ p. p.rule) (cond b (placed_at year n r ∷ placed_from year (suc n) rs) (placed_from year (suc n) rs))
    ≡ cond b (r ∷ others) others) [ true ↦ ap (λ xs. r ∷ xs) later | false ↦ later ]

pub placed_most : (year : ℤ) (n : ℕ) (rs : List RuleInfo) → length (placed_from year n rs) ≤ length rs
placed_most year n [] = omega arith
placed_most year n (r ∷ rs) =
    let later = placed_most year (suc n) rs in
    elim (applies_to_year r year) as (λ b. length (cond b (placed_at year n r ∷ placed_from year (suc n) rs) (placed_from year (suc n) rs)) ≤ suc (length rs)) [
      | true ↦ omega (arith, later)
      | false ↦ omega (arith, later)
    ]
