-- The set that is seen of a table.
use Rattle.tz_lookup.specs.declared.set.FixedTimespanSet.{FixedTimespanSet}
use Rattle.tz_ever.specs.{ZoneShown.{recurrence_of, zone_set_of}, Unrolled.{told}, declared.table.ZoneTable.{ZoneTable}}

-- all entries that are told of the zone
abbrev pub table_of : ZoneTable → FixedTimespanSet
table_of table = told (recurrence_of table.set.now) (zone_set_of table.set.now)
