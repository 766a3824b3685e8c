-- The collapse of entries, and its law.
use Rattle.std.specs.{Prelude.{Bool, ◌&&◌, List, [], ◌∷◌, reverse, ◌+ℤ◌, ◌<ℤ◌, ◌≤ℤ◌, int_le, if◌then◌else◌}, Ordering.{int_eq}}
use Rattle.basics.specs.Bytes.{are_same_bytes}
use Rattle.zone_spans.specs.{declared.span.FixedTimespan.{FixedTimespan}, Entries.{Entry, total}}

abbrev pub is_same_span : FixedTimespan → FixedTimespan → Bool
is_same_span a b = int_eq a.utc_offset b.utc_offset && int_eq a.dst_offset b.dst_offset && are_same_bytes a.name b.name

-- e comes no later by its local time than k, which began when the span of j was in force
abbrev pub is_no_later : Entry → Entry → Entry → Bool
is_no_later e k j = int_le (e.0 +ℤ total k.1) (k.0 +ℤ total j.1)

-- what is kept once e came, the latest first
unfoldable pub kept_with : List Entry → Entry → List Entry
kept_with [] e = e ∷ []
kept_with (k ∷ []) e = if is_same_span e.1 k.1 then k ∷ [] else e ∷ k ∷ []
kept_with (k ∷ j ∷ ks) e =
    if is_no_later e k j then (k.0, e.1) ∷ j ∷ ks
    else if is_same_span e.1 k.1 then k ∷ j ∷ ks
    else e ∷ k ∷ j ∷ ks

-- what is kept of entries that come after those kept
unfoldable pub kept_of : List Entry → List Entry → List Entry
kept_of ks [] = ks
kept_of ks (e ∷ es) = kept_of (kept_with ks e) es

-- without the first where it says what holds before it
unfoldable pub without_first : FixedTimespan → List Entry → List Entry
without_first first [] = []
without_first first (e ∷ es) = if is_same_span e.1 first then es else e ∷ es

unfoldable pub collapsed : FixedTimespan → List Entry → List Entry
collapsed first entries = without_first first (reverse (kept_of [] entries))

-- the local ends of the spans after the first strictly rise
abbrev pub LocalEndsRise : List Entry → Type 0
LocalEndsRise [] = Unit {0}
LocalEndsRise (a ∷ []) = Unit {0}
LocalEndsRise (a ∷ b ∷ []) = Unit {0}
LocalEndsRise (a ∷ b ∷ c ∷ es) = ((b.0 +ℤ total a.1) <ℤ (c.0 +ℤ total b.1)) × LocalEndsRise (b ∷ c ∷ es)

-- the times don't fall
abbrev pub EntryTimesDontFall : List Entry → Type 0
EntryTimesDontFall [] = Unit {0}
EntryTimesDontFall (a ∷ []) = Unit {0}
EntryTimesDontFall (a ∷ b ∷ es) = (a.0 ≤ℤ b.0) × EntryTimesDontFall (b ∷ es)
