-- Small sets of spans, for worked rows.
use Rattle.std.proofs.Common.{ℕ, ℤ, List, []}
use Rattle.zone_spans.specs.{Entries.{Entry}, declared.span.FixedTimespan.{FixedTimespan}}
use Rattle.tz_lookup.specs.declared.set.FixedTimespanSet.{FixedTimespanSet}

-- a standard offset, a saving and an abbreviation
abbrev pub span : ℤ → ℤ → List ℕ → FixedTimespan
span standard saving name = record { utc_offset = standard; dst_offset = saving; name = name }

abbrev pub with : FixedTimespan → List Entry → FixedTimespanSet
with first others = record { name = []; first = first; others = others }
