-- What is seen of a zone that is asked.
use Rattle.tz_lookup.specs.{declared.set.FixedTimespanSet.{FixedTimespanSet}, CompactZones.{compact_of}}
use Rattle.tz_ever.specs.declared.{recurrence.Recurrence.{Recurrence}, zone_tz.ZoneTz.{ZoneTz}}

-- the set of a zone
abbrev pub asked_set : ZoneTz → FixedTimespanSet
asked_set zone = compact_of zone.zone

-- whether its changes come again
abbrev pub asked_recurrence : ZoneTz → Recurrence
asked_recurrence zone = zone.recurrence
