-- The kinds of spans: pairs of offsets with a name.
use Rattle.std.specs.{Prelude.{ℕ, Bool, ◌&&◌, List, [], ◌∷◌, ◌++◌, map, slice_index_or, bytes_eq, pos, if◌then◌else◌}, List.{list_any}, Ordering.{int_eq}}
use Rattle.zone_spans.specs.declared.span.FixedTimespan.{FixedTimespan}
use Rattle.tz_lookup.specs.declared.set.FixedTimespanSet.{FixedTimespanSet}

abbrev pub is_same_kind : FixedTimespan → FixedTimespan → Bool
is_same_kind a b = int_eq a.utc_offset b.utc_offset && (int_eq a.dst_offset b.dst_offset && bytes_eq a.name b.name)

-- the kind of that number
abbrev pub kind_in : List FixedTimespan → ℕ → FixedTimespan
kind_in kinds number = slice_index_or kinds number (record { utc_offset = pos 0; dst_offset = pos 0; name = [] })

-- these kinds, with one more behind them where it isn't among them
abbrev pub with_kind : List FixedTimespan → FixedTimespan → List FixedTimespan
with_kind kinds kind = if list_any (is_same_kind kind) kinds then kinds else kinds ++ kind ∷ []

-- these kinds, with those of some spans, each once
unfoldable pub with_kinds : List FixedTimespan → List FixedTimespan → List FixedTimespan
with_kinds kinds [] = kinds
with_kinds kinds (span ∷ spans) = with_kinds (with_kind kinds span) spans

-- the distinct kinds among the spans of a set
abbrev pub kinds_of : FixedTimespanSet → List FixedTimespan
kinds_of set = with_kinds [] (set.first ∷ map (λ entry. entry.1) set.others)
