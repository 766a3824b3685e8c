-- Up to the entries of later years the total over more years is the same.
use Rattle.std.proofs.{Common.{◌≡◌, List, [], ◌∷◌, ℤ, pos, refl, ℕ, ap, ◌∙◌, arith, ◌+ℤ◌, ◌*ℤ◌, ◌≤ℤ◌, ◌+◌, true, false, ◌++◌, sym, int_le, int_lt, cond, reverse, ◌<ℤ◌}, lemmas.Int.{ints}, lemmas.List.{reverse-append}}
use Rattle.basics.specs.{ComparisonLaws.{le_fail, lt_from_fail}, SignedLaws.{signed}}
use Rattle.zone_spans.specs.{Collapse.{is_no_later, is_same_span, kept_of, kept_with}, Entries.{Entry, total, sorted_entries_over}, Lines.{Line}, declared.span.FixedTimespan.{FixedTimespan}, Later.{later_entries}}
use Rattle.tz_ever.specs.InForce.{has_come, span_by}
use Rattle.tz_ever.proofs.cycle.{CollapseLemmas.{kept_of-more}, EverLemmas.{IsTested, adds_behind}, OrderLemmas.{AllFrom, in_order-for_ever}, SpanLemmas.{span_by-more}, ZoneLemmas.{sorted_entries_over-more, span_in, span_in-is}}

-- none has come at that instant
abbrev pub NoneHasCome : ℤ → List Entry → Type 0
NoneHasCome t [] = Unit {0}
NoneHasCome t (e ∷ es) = (has_come t e ≡ false) × NoneHasCome t es

-- an entry that has not come has no part in the total
pub ahead : (first : FixedTimespan) (t : ℤ) (e : Entry) (ks : List Entry) → has_come t e ≡ false → span_by first (reverse (e ∷ ks)) t ≡ span_by first (reverse ks) t
unfolding span_by
ahead first t e ks h =
    ap (λ l. span_by first l t) (reverse-append (e ∷ []) ks) ∙ span_by-more (reverse ks) (e ∷ []) first t
    ∙ ap (λ b. cond b e.1 (span_by first (reverse ks) t)) h

-- where the latest kept has not come, nothing that follows changes what is in force
pub kept_ahead : (es : List Entry) (k j : Entry) (ks : List Entry) (first : FixedTimespan) (t : ℤ) → has_come t k ≡ false → NoneHasCome t es
    → span_by first (reverse (kept_of (k ∷ j ∷ ks) es)) t ≡ span_by first (reverse (j ∷ ks)) t
unfolding kept_of kept_with
kept_ahead [] k j ks first t h none = ahead first t k (j ∷ ks) h
kept_ahead (e ∷ es) k j ks first t h none =
    elim (is_no_later e k j) as (λ p. span_by first (reverse (kept_of (cond p ((k.0, e.1) ∷ j ∷ ks)
    (cond (is_same_span e.1 k.1) (k ∷ j ∷ ks) (e ∷ k ∷ j ∷ ks))) es)) t ≡ span_by first (reverse (j ∷ ks)) t) [
      | true ↦ kept_ahead es (k.0, e.1) j ks first t h none.1
      | false ↦ elim (is_same_span e.1 k.1) as (λ q. span_by first (reverse (kept_of (cond q (k ∷ j ∷ ks) (e ∷ k ∷ j ∷ ks)) es)) t
          ≡ span_by first (reverse (j ∷ ks)) t) [
            | true ↦ kept_ahead es k j ks first t h none.1
            | false ↦ kept_ahead es e k (j ∷ ks) first t none.0 none.1 ∙ ahead first t k (j ∷ ks) h
          ]
    ]

-- none takes the place of the latest kept
abbrev pub NoneReplaces : Entry → Entry → List Entry → Type 0
NoneReplaces k j [] = Unit {0}
NoneReplaces k j (e ∷ es) = (is_no_later e k j ≡ false) × NoneReplaces k j es

pub kept_stays : (es : List Entry) (k j : Entry) (ks : List Entry) (first : FixedTimespan) (t : ℤ) → NoneReplaces k j es → NoneHasCome t es
    → span_by first (reverse (kept_of (k ∷ j ∷ ks) es)) t ≡ span_by first (reverse (k ∷ j ∷ ks)) t
unfolding kept_of kept_with
kept_stays [] k j ks first t keep none = refl
kept_stays (e ∷ es) k j ks first t keep none =
    ap (λ p. span_by first (reverse (kept_of (cond p ((k.0, e.1) ∷ j ∷ ks)
    (cond (is_same_span e.1 k.1) (k ∷ j ∷ ks) (e ∷ k ∷ j ∷ ks))) es)) t) keep.0
    ∙ elim (is_same_span e.1 k.1) as (λ q. span_by first (reverse (kept_of (cond q (k ∷ j ∷ ks) (e ∷ k ∷ j ∷ ks)) es)) t
    ≡ span_by first (reverse (k ∷ j ∷ ks)) t) [
      | true ↦ kept_stays es k j ks first t keep.1 none.1
      | false ↦ kept_ahead es e k (j ∷ ks) first t none.0 none.1
    ]

not_come : (t low x : ℤ) → t <ℤ (low *ℤ pos 1000000000) → int_lt x low ≡ false → int_le (x *ℤ pos 1000000000) t ≡ false
not_come t low x h k =
    let above : low ≤ℤ x = lt_from_fail x low k in
    le_fail (x *ℤ pos 1000000000) t (omega (arith, signed))

pub none_has_come : (t low : ℤ) (es : List Entry) → t <ℤ (low *ℤ pos 1000000000) → AllFrom low es → NoneHasCome t es
none_has_come t low [] h from = tt
none_has_come t low (e ∷ es) h from = (not_come t low e.0 h from.0, none_has_come t low es h from.1)

not_replaced : (low x a b : ℤ) → int_le (low +ℤ a) b ≡ false → int_lt x low ≡ false → int_le (x +ℤ a) b ≡ false
not_replaced low x a b h k = grind (arith, ints)

pub none_replaces : (low : ℤ) (k j : Entry) (es : List Entry) → int_le (low +ℤ total k.1) (k.0 +ℤ total j.1) ≡ false → AllFrom low es → NoneReplaces k j es
none_replaces low k j [] h from = tt
none_replaces low k j (e ∷ es) h from =
    (not_replaced low e.0 (total k.1) (k.0 +ℤ total j.1) h from.0, none_replaces low k j es h from.1)

-- the total over more years, before the second from which their entries come; no entry from there on takes the place of the latest kept
pub span-stable : (lines : List Line) (last : Line) (place k : ℕ) (first : FixedTimespan) (t : ℤ) (test : IsTested lines last place)
    (a b : Entry) (before : List Entry)
    → kept_of [] (sorted_entries_over place (lines ++ (last ∷ []))) ≡ a ∷ b ∷ before
    → int_le (test.low +ℤ total a.1) (a.0 +ℤ total b.1) ≡ false → t <ℤ (test.low *ℤ pos 1000000000)
    → span_in first (sorted_entries_over (k + place) (lines ++ (last ∷ []))) t ≡ span_in first (sorted_entries_over place (lines ++ (last ∷ []))) t
span-stable lines last place k first t test a b before kept apart early =
    let zone = lines ++ (last ∷ []) in
    let gs = later_entries last place k in
    let from = (in_order-for_ever last place test.low test.settled test.late test.seam test.in_order k).1 in
    span_in-is first (sorted_entries_over (k + place) zone) t
    ∙ ap (λ l. span_by first (reverse l) t) (ap (kept_of []) (sorted_entries_over-more lines last place k (adds_behind lines last place test))
    ∙ kept_of-more (sorted_entries_over place zone) gs [] ∙ ap (λ l. kept_of l gs) kept)
    ∙ kept_stays gs a b before first t (none_replaces test.low a b gs apart from) (none_has_come t test.low gs early from)
    ∙ ap (λ l. span_by first (reverse l) t) (sym kept)
    ∙ sym (span_in-is first (sorted_entries_over place zone) t)
