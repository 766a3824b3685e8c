-- The changes of a zone, and the saving in force.
use Rattle.std.specs.{Prelude.{ℤ, Bool, ◌&&◌, not, List, [], ◌∷◌, length, map, filter, Option, int_le, int_lt, if◌then◌else◌}, List.{slice_get}, Ordering.{int_eq}}
use Rattle.zone_spans.specs.{Collapse.{is_same_span}, Entries.{Entry, total}, declared.span.FixedTimespan.{FixedTimespan}}
use Rattle.tz_lookup.specs.declared.set.FixedTimespanSet.{FixedTimespanSet}
use Rattle.sefunjaro.specs.declared.changes.Change.{Change}

-- what the last of some entries puts in force, or what is in force before them
abbrev pub last_span : FixedTimespan → List Entry → FixedTimespan
last_span span [] = span
last_span span (entry ∷ entries) = last_span entry.1 entries

-- what is in force just before a second
unfoldable pub span_before : FixedTimespanSet → ℤ → FixedTimespan
span_before set second = last_span set.first (filter (λ entry. int_lt entry.0 second) set.others)

-- What an entry of a set puts in force, and from when on; it differs where the offset, the saving or the abbreviation is another than
-- just before that second.
abbrev pub change_of : FixedTimespanSet → Entry → Change
change_of set entry = record {
  second = entry.0;
  offset = total entry.1;
  saving = entry.1.dst_offset;
  name_length = length entry.1.name;
  differs = not (is_same_span entry.1 (span_before set entry.0));
}

-- of changes in the order of time, those behind which no other stands at the same second
unfoldable pub settled_changes : List Change → List Change
settled_changes [] = []
settled_changes (c ∷ []) = c ∷ []
settled_changes (c ∷ d ∷ cs) = if int_eq c.second d.second then settled_changes (d ∷ cs) else c ∷ settled_changes (d ∷ cs)

-- the changes of a set, in the order of time
abbrev pub changes_of : FixedTimespanSet → List Change
changes_of set = settled_changes (map (change_of set) set.others)

-- from the first second on, and before the other
abbrev pub is_within : ℤ → ℤ → Change → Bool
is_within from to change = int_le from change.second && int_lt change.second to

-- the changes of a window of time; none where its first second isn't below the other
unfoldable pub window : FixedTimespanSet → ℤ → ℤ → List Change
window set from to = filter (is_within from to) (changes_of set)

-- the first change after a second, if there is one
unfoldable pub next_after : FixedTimespanSet → ℤ → Option Change
next_after set second = slice_get (filter (λ change. int_lt second change.second) (changes_of set)) 0

-- the saving in force at a second: that of the last entry at or before it, or what is in force before all entries
unfoldable pub saving_at : FixedTimespanSet → ℤ → ℤ
saving_at set second = (last_span set.first (filter (λ entry. int_le entry.0 second) set.others)).dst_offset
