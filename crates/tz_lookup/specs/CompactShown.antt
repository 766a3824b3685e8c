-- The set that a compact set was built from.
use Rattle.tz_lookup.specs.{declared.set.FixedTimespanSet.{FixedTimespanSet}, Compact.{set_seen}, declared.compact_set.CompactSet.{CompactSet}}

abbrev pub seen : CompactSet → FixedTimespanSet
seen set = set_seen set.name set.kinds set.first set.times set.numbers
