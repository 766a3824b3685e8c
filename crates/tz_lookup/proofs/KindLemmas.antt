-- Kinds, each once.
use Rattle.std.{proofs.Common.{◌≡◌, ℕ, zero, suc, ◌<◌, Bool, true, false, cond, List, [], ◌∷◌, ◌++◌, length, map, refl, sym, ap, ◌∙◌, arith, Some, slice_get}, specs.Prelude.{◌||◌}, specs.List.{list_any}, proofs.lemmas.List.{map-append, length-append}}
use Rattle.indexmap.specs.IndexSet.{insert_key}
use Rattle.zone_spans.specs.declared.span.FixedTimespan.{FixedTimespan}
use Rattle.tz_lookup.{specs.Kinds.{is_same_kind, kind_in, with_kind}, proofs.KindLaws.{same_kind}, specs.KindShown.{kind_shown}, specs.declared.compact_set.Kind.{Kind}}
use Rattle.tz_lookup.specs.contracts.compact_set.KindPartialEq.TheImpl as same

same_shown : (a b : Kind) → same.ghosts.eq a b ≡ is_same_kind (kind_shown a) (kind_shown b)
same_shown a b = refl

any_shown : (kind : Kind) (kinds : List Kind) → list_any (same.ghosts.eq kind) kinds ≡ list_any (is_same_kind (kind_shown kind)) (map kind_shown kinds)
any_shown kind [] = refl
any_shown kind (k ∷ kinds) = λ i. same_shown kind k i || any_shown kind kinds i

-- a kind that is inserted among some kinds
pub shown_insert : (kinds : List Kind) (kind : Kind) → map kind_shown (insert_key same.ghosts.eq kinds kind) ≡ with_kind (map kind_shown kinds) (kind_shown kind)
shown_insert kinds kind =
    by_test (list_any (same.ghosts.eq kind) kinds) ∙ ap (λ b. cond b (map kind_shown kinds) (map kind_shown kinds ++ kind_shown kind ∷ [])) (any_shown kind kinds)
  where
    by_test : (b : Bool) → map kind_shown (cond b kinds (kinds ++ kind ∷ [])) ≡ cond b (map kind_shown kinds) (map kind_shown kinds ++ kind_shown kind ∷ [])
    by_test true = refl
    by_test false = map-append kind_shown kinds (kind ∷ [])

-- the kind at a place
kind_at : (kinds : List Kind) (number : ℕ) (kind : Kind) → slice_get kinds number ≡ Some kind → kind_in (map kind_shown kinds) number ≡ kind_shown kind
kind_at [] number kind e = absurd (cc)
kind_at (k ∷ kinds) zero kind e = ap kind_shown (some_same k kind e)
  where
    some_same : (a b : Kind) → Some a ≡ Some b → a ≡ b
    some_same a b e = cc
kind_at (k ∷ kinds) (suc number) kind e = kind_at kinds number kind e

pub stored_kind : (kinds : List Kind) (number : ℕ) (kind stored : Kind) → slice_get kinds number ≡ Some stored → same.ghosts.eq kind stored ≡ true
    → kind_in (map kind_shown kinds) number ≡ kind_shown kind
stored_kind kinds number kind stored at is =
    kind_at kinds number stored at ∙ sym (same_kind (kind_shown kind) (kind_shown stored) is)

-- the kinds so far keep their numbers
pub kind_stays : (kinds : List FixedTimespan) (kind : FixedTimespan) (number : ℕ) → number < length kinds
    → kind_in (with_kind kinds kind) number ≡ kind_in kinds number
kind_stays kinds kind number l = by_test (list_any (is_same_kind kind) kinds)
  where
    at_front : (kinds : List FixedTimespan) (number : ℕ) → number < length kinds → kind_in (kinds ++ kind ∷ []) number ≡ kind_in kinds number
    at_front [] number l = absurd (omega (arith, l))
    at_front (k ∷ kinds) zero l = refl
    at_front (k ∷ kinds) (suc number) l = at_front kinds number (omega (arith, l))

    by_test : (b : Bool) → kind_in (cond b kinds (kinds ++ kind ∷ [])) number ≡ kind_in kinds number
    by_test true = refl
    by_test false = at_front kinds number l

pub kinds_grow : (kinds : List FixedTimespan) (kind : FixedTimespan) (number : ℕ) → number < length kinds → number < length (with_kind kinds kind)
kinds_grow kinds kind number l = by_test (list_any (is_same_kind kind) kinds)
  where
    by_test : (b : Bool) → number < length (cond b kinds (kinds ++ kind ∷ []))
    by_test true = l
    by_test false = omega (arith, l, length-append kinds (kind ∷ []))
