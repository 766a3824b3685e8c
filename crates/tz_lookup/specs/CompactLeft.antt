-- What is left to give of the date-times of a local time in a compact zone.
use Rattle.std.specs.Prelude.{List}
use Rattle.civil_base.specs.declared.offset_date_time.OffsetDateTime.{OffsetDateTime}
use Rattle.tz_lookup.specs.{InstantsLeft.{dates_left}, declared.instants.InstantsIn.{InstantsIn}, declared.compact_set.CompactSet.{CompactSet}}
use Rattle.tz_lookup.specs.contracts.compact_set.CompactSetSpanTable.TheImpl as of_compact

-- those at the spans that contain the local second, from the next one on
abbrev pub compact_left : InstantsIn CompactSet of_compact.ghosts → List OffsetDateTime
compact_left left = dates_left left
