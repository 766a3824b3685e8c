-- What is in force at an instant.
use Rattle.std.specs.Prelude.{Bool, List, [], ◌∷◌, ℤ, pos, ◌*ℤ◌, int_le, if◌then◌else◌}
use Rattle.zone_spans.specs.{Entries.{Entry}, declared.span.FixedTimespan.{FixedTimespan}, declared.span.FixedTimespanSet.{FixedTimespanSet}}

-- the entry's second is at the instant in nanoseconds or before
abbrev pub has_come : ℤ → Entry → Bool
has_come t e = int_le (e.0 *ℤ pos 1000000000) t

-- what the last entry that has come puts in force
unfoldable pub span_by : FixedTimespan → List Entry → ℤ → FixedTimespan
span_by first [] t = first
span_by first (e ∷ es) t = span_by (if has_come t e then e.1 else first) es t

-- the offset, the saving and the abbreviation at an instant in nanoseconds
abbrev pub span_at : FixedTimespanSet → ℤ → FixedTimespan
span_at set t = span_by set.first set.rest t
