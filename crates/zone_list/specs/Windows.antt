-- The entries of a set in a window of time.
use Rattle.std.specs.Prelude.{ℕ, suc, Bool, ◌&&◌, List, filter, ℤ, int_le, int_lt}
use Rattle.zone_spans.specs.Entries.{Entry}
use Rattle.tz_lookup.specs.{Sets.{shifts_of, span_in}, Spans.{shift_at}, declared.set.FixedTimespanSet.{FixedTimespanSet}}

-- a time from the first second on, and before the other
abbrev pub is_within : ℤ → ℤ → Entry → Bool
is_within from to entry = int_le from entry.0 && int_lt entry.0 to

-- the entries from the first second on and before the other, in their order; none where the first isn't below the other
abbrev pub within : ℤ → ℤ → List Entry → List Entry
within from to entries = filter (is_within from to) entries

unfoldable pub window : FixedTimespanSet → ℤ → ℤ → List Entry
window set from to = within from to set.others

-- the entry at a place, which counts from 0, as a table gives it: its time, and the span that it begins
abbrev pub entry_at : FixedTimespanSet → ℕ → Entry
entry_at set i = ((shift_at (shifts_of set) i).0, span_in set (suc i))
