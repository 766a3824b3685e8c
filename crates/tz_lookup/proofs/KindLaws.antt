-- The kinds of a set are those that its spans have, and no two of them are the same.
use Rattle.std.specs.{Prelude.{◌≡◌, Bool, true, false, cond, ◌&&◌, ◌||◌, not, List, [], ◌∷◌, ◌++◌, map, bytes_eq}, List.{list_any}, Ordering.{int_eq}}
use Rattle.std.proofs.{Common.{refl, sym, ap, ◌∙◌}, Math.Bool.{or-false, or_assoc}, lemmas.Bool.{and_parts, or_parts}, lemmas.Slice.Eq.{bytes_eq-Decides}}
use Rattle.basics.specs.ComparisonLaws.{eq_from_pass, eq_itself}
use Rattle.zone_spans.specs.declared.span.FixedTimespan.{FixedTimespan}
use Rattle.tz_lookup.specs.{declared.set.FixedTimespanSet.{FixedTimespanSet}, Kinds.{is_same_kind, with_kind, with_kinds, kinds_of}}

-- two kinds that are the same are one
pub same_kind : (a b : FixedTimespan) → is_same_kind a b ≡ true → a ≡ b
same_kind a b h =
    let first = and_parts (int_eq a.utc_offset b.utc_offset) (int_eq a.dst_offset b.dst_offset && bytes_eq a.name b.name) h in
    let both = and_parts (int_eq a.dst_offset b.dst_offset) (bytes_eq a.name b.name) first.1 in
    let utc = eq_from_pass a.utc_offset b.utc_offset first.0 in
    let dst = eq_from_pass a.dst_offset b.dst_offset both.0 in
    let name = (bytes_eq-Decides a.name b.name).0 both.1 in
    (λ i. record { utc_offset = utc i; dst_offset = dst i; name = name i })

kind_itself : (a : FixedTimespan) → is_same_kind a a ≡ true
kind_itself a =
    (λ i. eq_itself a.utc_offset i && (eq_itself a.dst_offset i && (bytes_eq-Decides a.name a.name).1 refl i))

-- the kind is one of some kinds
abbrev pub is_among : FixedTimespan → List FixedTimespan → Bool
is_among kind kinds = list_any (is_same_kind kind) kinds

among_more : (kind more : FixedTimespan) (kinds : List FixedTimespan) → is_among kind (kinds ++ more ∷ []) ≡ (is_among kind kinds || is_same_kind kind more)
among_more kind more [] = or-false (is_same_kind kind more)
among_more kind more (k ∷ kinds) =
    ap (λ b. is_same_kind kind k || b) (among_more kind more kinds)
    ∙ sym (or_assoc (is_same_kind kind k) (is_among kind kinds) (is_same_kind kind more))

-- where one of them is added, they and that one are there
among_with : (kind more : FixedTimespan) (kinds : List FixedTimespan) → is_among kind (with_kind kinds more) ≡ (is_among kind kinds || is_same_kind kind more)
among_with kind more kinds = by_test (is_among more kinds) refl
  where
    there : (b : Bool) → is_same_kind kind more ≡ b → is_among more kinds ≡ true → is_among kind kinds ≡ (is_among kind kinds || b)
    there false e among = sym (or-false (is_among kind kinds))
    there true e among =
        let all : is_among kind kinds ≡ true = ap (λ k. is_among k kinds) (same_kind kind more e) ∙ among in
        all ∙ sym (ap (λ b. b || true) all)

    by_test : (b : Bool) → is_among more kinds ≡ b
        → is_among kind (cond b kinds (kinds ++ more ∷ [])) ≡ (is_among kind kinds || is_same_kind kind more)
    by_test true e = there (is_same_kind kind more) refl e
    by_test false e = among_more kind more kinds

among_all : (kind : FixedTimespan) (kinds spans : List FixedTimespan) → is_among kind (with_kinds kinds spans) ≡ (is_among kind kinds || is_among kind spans)
unfolding with_kinds
among_all kind kinds [] = sym (or-false (is_among kind kinds))
among_all kind kinds (span ∷ spans) =
    among_all kind (with_kind kinds span) spans ∙ ap (λ b. b || is_among kind spans) (among_with kind span kinds)
    ∙ or_assoc (is_among kind kinds) (is_same_kind kind span) (is_among kind spans)

-- a kind is among them exactly where a span has it
pub kinds_are : (set : FixedTimespanSet) (kind : FixedTimespan) → is_among kind (kinds_of set) ≡ is_among kind (set.first ∷ map (λ entry. entry.1) set.others)
kinds_are set kind = among_all kind [] (set.first ∷ map (λ entry. entry.1) set.others)

-- no two are the same
unfoldable pub are_distinct : List FixedTimespan → Bool
are_distinct [] = true
are_distinct (kind ∷ kinds) = not (is_among kind kinds) && are_distinct kinds

turned : (a b : FixedTimespan) → is_same_kind b a ≡ false → is_same_kind a b ≡ false
turned a b e = by_test (is_same_kind a b) refl
  where
    by_test : (t : Bool) → is_same_kind a b ≡ t → t ≡ false
    by_test false f = refl
    by_test true f =
        let is = same_kind a b f in
        let yes : is_same_kind b a ≡ true = ap (λ k. is_same_kind b k) is ∙ kind_itself b in cc

distinct_more : (kinds : List FixedTimespan) (more : FixedTimespan) → is_among more kinds ≡ false → are_distinct kinds ≡ true
    → are_distinct (kinds ++ more ∷ []) ≡ true
unfolding are_distinct
distinct_more [] more apart distinct = refl
distinct_more (k ∷ kinds) more apart distinct =
    let parts = and_parts (not (is_among k kinds)) (are_distinct kinds) distinct in
    let both = or_parts (is_same_kind more k) (is_among more kinds) apart in
    let here : is_among k (kinds ++ more ∷ []) ≡ is_among k kinds =
    among_more k more kinds ∙ ap (λ b. is_among k kinds || b) (turned k more both.0) ∙ or-false (is_among k kinds) in
    (λ i. not (here i) && distinct_more kinds more both.1 parts.1 i) ∙ ap (λ b. b && true) parts.0

distinct_with : (kinds : List FixedTimespan) (more : FixedTimespan) → are_distinct kinds ≡ true → are_distinct (with_kind kinds more) ≡ true
distinct_with kinds more distinct = by_test (is_among more kinds) refl
  where
    by_test : (b : Bool) → is_among more kinds ≡ b → are_distinct (cond b kinds (kinds ++ more ∷ [])) ≡ true
    by_test true e = distinct
    by_test false e = distinct_more kinds more e distinct

distinct_all : (kinds spans : List FixedTimespan) → are_distinct kinds ≡ true → are_distinct (with_kinds kinds spans) ≡ true
unfolding with_kinds
distinct_all kinds [] distinct = distinct
distinct_all kinds (span ∷ spans) distinct = distinct_all (with_kind kinds span) spans (distinct_with kinds span distinct)

pub kinds_distinct : (set : FixedTimespanSet) → are_distinct (kinds_of set) ≡ true
unfolding are_distinct
kinds_distinct set = distinct_all [] (set.first ∷ map (λ entry. entry.1) set.others) refl
