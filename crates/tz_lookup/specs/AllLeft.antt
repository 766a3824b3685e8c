-- What is left to give of the date-times of a local time in any zone.
use Rattle.std.specs.Prelude.{List}
use Rattle.civil_base.specs.declared.offset_date_time.OffsetDateTime.{OffsetDateTime}
use Rattle.tz_lookup.specs.declared.time_zone.{AllInstants.{Ghosts}, InstantsOf.{InstantsOf}, Offset.{Ghosts as OffsetGhosts}, TimeZone.{Ghosts as ZoneGhosts}}

-- what its cursor still has to give
abbrev pub all_left : {Z C O : Type 0} {all : Ghosts Z C O} {zone : ZoneGhosts Z O} {offset : OffsetGhosts O} → InstantsOf Z C O all zone offset
    → List OffsetDateTime
all_left {all = all} instants = all.left instants.zone.now instants.cursor
