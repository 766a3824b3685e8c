-- What is seen of a zone.
use Rattle.std.specs.Prelude.{ℤ}
use Rattle.civil_base.specs.Ranges.{IsOffset}
use Rattle.tz_lookup.specs.{declared.set.FixedTimespanSet.{FixedTimespanSet}, CompactShown.{seen}}
use Rattle.tz_ever.specs.{Recurrences.{turned, zone_total}, declared.recurrence.Recurrence.{Recurrence}, declared.zone_set.ZoneSet.{ZoneSet}}

-- the set that it was built from
abbrev pub zone_set_of : ZoneSet → FixedTimespanSet
zone_set_of zone = seen zone.set

-- whether its changes come again
abbrev pub recurrence_of : ZoneSet → Recurrence
recurrence_of zone = zone.recurrence

-- each total is an offset
pub zone_in_range : (zone : ZoneSet) (t : ℤ) → IsOffset (zone_total (recurrence_of zone) (zone_set_of zone) t)
unfolding zone_total
zone_in_range zone t = zone.set.range (turned zone.recurrence t)
