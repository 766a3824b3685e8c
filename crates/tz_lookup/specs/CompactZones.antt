-- What is seen of a compact zone.
use Rattle.tz_lookup.specs.{declared.set.FixedTimespanSet.{FixedTimespanSet}, CompactShown.{seen}, declared.compact_tz.CompactTz.{CompactTz}}

-- the set of a zone
abbrev pub compact_of : CompactTz → FixedTimespanSet
compact_of zone = seen zone.set.now
