-- The total in force at an instant of a later cycle is that a cycle before it.
use Rattle.std.proofs.{Common.{◌≡◌, List, [], ◌∷◌, ℤ, pos, refl, ℕ, Bool, ap, ◌∙◌, arith, ◌*ℤ◌, true, false, ◌++◌, map, sym, ◌&&◌, if◌then◌else◌, int_le, cond, int_eq, reverse, eqb-true, nat_eq}, lemmas.Bool.{and_parts}, lemmas.Int.{ints}}
use Rattle.std.proofs.lemmas.List.{reverse-append}
use Rattle.basics.specs.{Bytes.{are_same_bytes}, ComparisonLaws.{eq_from_pass}, SignedLaws.{signed}}
use Rattle.zone_spans.specs.{Collapse.{is_no_later, is_same_span, kept_of, kept_with, without_first}, Entries.{Entry}, declared.span.FixedTimespan.{FixedTimespan}, Cycle.{entry_on, instant_on, seconds_on}}
use Rattle.tz_ever.{specs.InForce.{has_come, span_by}, proofs.cycle.CollapseLemmas.{kept_of-behind}, proofs.cycle.SettledLemmas.{and_first, and_second}}

moved : (x : ℤ) → seconds_on x *ℤ pos 1000000000 ≡ instant_on (x *ℤ pos 1000000000)
moved x = omega (arith, signed)

order_moved : (a b : ℤ) → int_le (instant_on a) (instant_on b) ≡ int_le a b
order_moved a b = grind (arith, ints)

pub has_come-on : (t : ℤ) (e : Entry) → has_come (instant_on t) (entry_on e) ≡ has_come t e
has_come-on t e = ap (λ z. int_le z (instant_on t)) (moved e.0) ∙ order_moved (e.0 *ℤ pos 1000000000) t

pub span_by-on : (es : List Entry) (first : FixedTimespan) (t : ℤ) → span_by first (map entry_on es) (instant_on t) ≡ span_by first es t
unfolding span_by
span_by-on [] first t = refl
span_by-on (e ∷ es) first t =
    ap (λ b. span_by (if b then e.1 else first) (map entry_on es) (instant_on t)) (has_come-on t e)
    ∙ span_by-on es (if has_come t e then e.1 else first) t

pub span_by-more : (es fs : List Entry) (first : FixedTimespan) (t : ℤ) → span_by first (es ++ fs) t ≡ span_by (span_by first es t) fs t
unfolding span_by
span_by-more [] fs first t = refl
span_by-more (e ∷ es) fs first t = span_by-more es fs (if has_come t e then e.1 else first) t

-- what was in force before an entry that has come has no part
pub span_by-begun : (e : Entry) (es : List Entry) (first other : FixedTimespan) (t : ℤ) → has_come t e ≡ true
    → span_by first (e ∷ es) t ≡ span_by other (e ∷ es) t
unfolding span_by
span_by-begun e es first other t come = rw come

same_bytes : (a b : List ℕ) → are_same_bytes a b ≡ true → a ≡ b
same_bytes [] [] h = refl
same_bytes [] (y ∷ ys) h = absurd cc
same_bytes (x ∷ xs) [] h = absurd cc
same_bytes (x ∷ xs) (y ∷ ys) h =
    let both = and_parts (nat_eq x y) (are_same_bytes xs ys) h in
    let first : x ≡ y = eqb-true x y both.0 in
    let others = same_bytes xs ys both.1 in
    (λ i. first i ∷ others i)

pub same_span : (a b : FixedTimespan) → is_same_span a b ≡ true → a ≡ b
same_span a b same =
    let same_utc = int_eq a.utc_offset b.utc_offset in
    let same_dst = int_eq a.dst_offset b.dst_offset in
    let same_name = are_same_bytes a.name b.name in
    let utc = eq_from_pass a.utc_offset b.utc_offset (and_first same_utc same_dst (and_first (same_utc && same_dst) same_name same)) in
    let dst = eq_from_pass a.dst_offset b.dst_offset (and_second same_utc same_dst (and_first (same_utc && same_dst) same_name same)) in
    let name = same_bytes a.name b.name (and_second (same_utc && same_dst) same_name same) in
    (λ i. record { utc_offset = utc i; dst_offset = dst i; name = name i })

same_either : {X : Type 0} (b : Bool) (x : X) → x ≡ cond b x x
same_either true x = refl
same_either false x = refl

-- an entry that says what holds before it has no part in what is in force
pub span_by-without_first : (first : FixedTimespan) (es : List Entry) (t : ℤ)
    → span_by first (without_first first es) t ≡ span_by first es t
unfolding without_first span_by
span_by-without_first first [] t = refl
span_by-without_first first (e ∷ es) t =
    elim (is_same_span e.1 first) as (λ b. is_same_span e.1 first ≡ b → span_by first (cond b es (e ∷ es)) t
    ≡ span_by (cond (has_come t e) e.1 first) es t) [
      | true ↦ λ is. ap (λ z. span_by z es t) (same_either (has_come t e) first
          ∙ ap (λ z. cond (has_come t e) z first) (sym (same_span e.1 first is)))
      | false ↦ λ is. refl
    ] refl

-- the last of what is kept from two entries on is the second of them
ends_with : (es : List Entry) (k j : Entry) → (fs : List Entry) × (kept_of (k ∷ j ∷ []) es ≡ fs ++ (j ∷ []))
unfolding kept_of kept_with
ends_with [] k j = (k ∷ [], refl)
ends_with (e ∷ es) k j =
    elim (is_no_later e k j) as (λ p. (fs : List Entry) × (kept_of (cond p ((k.0, e.1) ∷ j ∷ [])
    (cond (is_same_span e.1 k.1) (k ∷ j ∷ []) (e ∷ k ∷ j ∷ []))) es ≡ fs ++ (j ∷ []))) [
      | true ↦ ends_with es (k.0, e.1) j
      | false ↦ elim (is_same_span e.1 k.1) as (λ q. (fs : List Entry) × (kept_of (cond q (k ∷ j ∷ []) (e ∷ k ∷ j ∷ [])) es ≡ fs ++ (j ∷ []))) [
        | true ↦ ends_with es k j
        | false ↦ (kept_of (e ∷ k ∷ []) es, kept_of-behind es e k (j ∷ []))
      ]
    ]

-- from the second of two kept entries on, what was kept before them has no part in what is in force
pub span_by-kept : (gs : List Entry) (k j : Entry) (ks : List Entry) (first other : FixedTimespan) (t : ℤ) → has_come t j ≡ true
    → span_by first (reverse (kept_of (k ∷ j ∷ []) gs ++ ks)) t ≡ span_by other (reverse (kept_of (k ∷ j ∷ []) gs)) t
span_by-kept gs k j ks first other t come =
    let fs = (ends_with gs k j).0 in
    let is = (ends_with gs k j).1 in
    let turned : reverse (kept_of (k ∷ j ∷ []) gs) ≡ j ∷ reverse fs = ap reverse is ∙ reverse-append fs (j ∷ []) in
    ap (λ l. span_by first l t) (reverse-append (kept_of (k ∷ j ∷ []) gs) ks)
    ∙ span_by-more (reverse ks) (reverse (kept_of (k ∷ j ∷ []) gs)) first t
    ∙ ap (λ l. span_by (span_by first (reverse ks) t) l t) turned
    ∙ span_by-begun j (reverse fs) (span_by first (reverse ks) t) other t come
    ∙ ap (λ l. span_by other l t) (sym turned)
