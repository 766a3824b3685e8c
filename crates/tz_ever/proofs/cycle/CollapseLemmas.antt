-- What the collapse keeps of entries a cycle later is what it keeps of them, a cycle later.
use Rattle.std.proofs.{Common.{◌≡◌, List, [], ◌∷◌, ℤ, refl, Bool, ap, ◌∙◌, arith, ◌+ℤ◌, true, false, ◌++◌, map, sym, int_le, cond, append_assoc}, lemmas.Int.{ints}}
use Rattle.zone_spans.specs.{Collapse.{is_no_later, is_same_span, kept_of, kept_with}, Entries.{Entry, total}, Cycle.{entry_on, seconds_on}}

pub local_on : (a b s t : ℤ) → int_le (seconds_on a +ℤ s) (seconds_on b +ℤ t) ≡ int_le (a +ℤ s) (b +ℤ t)
local_on a b s t = grind (arith, ints)

-- by the two tests
kept_by : Bool → Bool → Entry → Entry → Entry → List Entry → List Entry
kept_by p q k j e ks = cond p ((k.0, e.1) ∷ j ∷ ks) (cond q (k ∷ j ∷ ks) (e ∷ k ∷ j ∷ ks))

kept_by-on : (p q : Bool) (k j e : Entry) (ks : List Entry)
    → kept_by p q (entry_on k) (entry_on j) (entry_on e) (map entry_on ks) ≡ map entry_on (kept_by p q k j e ks)
unfolding kept_by
kept_by-on true q k j e ks = refl
kept_by-on false true k j e ks = refl
kept_by-on false false k j e ks = refl

first-on : (q : Bool) (k e : Entry) → cond q (entry_on k ∷ []) (entry_on e ∷ entry_on k ∷ []) ≡ map entry_on (cond q (k ∷ []) (e ∷ k ∷ []))
first-on true k e = refl
first-on false k e = refl

pub kept_with-on : (ks : List Entry) (e : Entry) → kept_with (map entry_on ks) (entry_on e) ≡ map entry_on (kept_with ks e)
unfolding kept_with kept_by
kept_with-on [] e = refl
kept_with-on (k ∷ []) e = first-on (is_same_span e.1 k.1) k e
kept_with-on (k ∷ j ∷ ks) e =
    ap (λ p. kept_by p (is_same_span e.1 k.1) (entry_on k) (entry_on j) (entry_on e) (map entry_on ks))
    (local_on e.0 k.0 (total k.1) (total j.1))
    ∙ kept_by-on (is_no_later e k j) (is_same_span e.1 k.1) k j e ks

pub kept_of-on : (es ks : List Entry) → kept_of (map entry_on ks) (map entry_on es) ≡ map entry_on (kept_of ks es)
unfolding kept_of
kept_of-on [] ks = refl
kept_of-on (e ∷ es) ks = ap (λ l. kept_of l (map entry_on es)) (kept_with-on ks e) ∙ kept_of-on es (kept_with ks e)

-- nothing that comes later changes what was kept before the last two
pub kept_of-behind : (es : List Entry) (k j : Entry) (ks : List Entry) → kept_of (k ∷ j ∷ ks) es ≡ kept_of (k ∷ j ∷ []) es ++ ks
unfolding kept_of kept_with
kept_of-behind [] k j ks = refl
kept_of-behind (e ∷ es) k j ks =
    elim (is_no_later e k j) as (λ p. kept_of (cond p ((k.0, e.1) ∷ j ∷ ks) (cond (is_same_span e.1 k.1) (k ∷ j ∷ ks) (e ∷ k ∷ j ∷ ks))) es
    ≡ kept_of (cond p ((k.0, e.1) ∷ j ∷ []) (cond (is_same_span e.1 k.1) (k ∷ j ∷ []) (e ∷ k ∷ j ∷ []))) es ++ ks) [
      | true ↦ kept_of-behind es (k.0, e.1) j ks
      | false ↦ elim (is_same_span e.1 k.1) as (λ q. kept_of (cond q (k ∷ j ∷ ks) (e ∷ k ∷ j ∷ ks)) es
          ≡ kept_of (cond q (k ∷ j ∷ []) (e ∷ k ∷ j ∷ [])) es ++ ks) [
            | true ↦ kept_of-behind es k j ks
            | false ↦ kept_of-behind es e k (j ∷ ks)
                ∙ sym (ap (λ l. l ++ ks) (kept_of-behind es e k (j ∷ [])) ∙ append_assoc (kept_of (e ∷ k ∷ []) es) (j ∷ []) ks)
          ]
    ]

-- entries come one after another
pub kept_of-more : (es gs ks : List Entry) → kept_of ks (es ++ gs) ≡ kept_of (kept_of ks es) gs
unfolding kept_of
kept_of-more [] gs ks = refl
kept_of-more (e ∷ es) gs ks = kept_of-more es gs (kept_with ks e)

-- where the last two kept a cycle later are those kept, a cycle later, so are all kept from there on
pub kept-repeats : (before later gs : List Entry) (k j : Entry) (ks ls : List Entry)
    → kept_of [] before ≡ k ∷ j ∷ ks → kept_of [] later ≡ entry_on k ∷ entry_on j ∷ ls
    → (kept_of [] (before ++ gs) ≡ kept_of (k ∷ j ∷ []) gs ++ ks)
    × (kept_of [] (later ++ map entry_on gs) ≡ map entry_on (kept_of (k ∷ j ∷ []) gs) ++ ls)
kept-repeats before later gs k j ks ls here there = (
  kept_of-more before gs [] ∙ ap (λ l. kept_of l gs) here ∙ kept_of-behind gs k j ks,
  kept_of-more later (map entry_on gs) [] ∙ ap (λ l. kept_of l (map entry_on gs)) there
      ∙ kept_of-behind (map entry_on gs) (entry_on k) (entry_on j) ls
      ∙ ap (λ l. l ++ ls) (kept_of-on gs (k ∷ j ∷ [])),
)
