-- What is seen of the offsets that texts give.
use Rattle.std.specs.Prelude.{int_lt, pos}
use Rattle.tz_lookup.specs.{Zones.{span_shown, total_shown}, declared.tz.TzOffset.{TzOffset}}
use Rattle.tz_posix.specs.{PosixZones.{Given}, declared.offset.PosixTzOffset.{PosixTzOffset}, declared.offset.Source.{Source}, declared.offset.Source.TheVariants.{Zone, Text}}

-- the offset of a zone's span
abbrev pub zone_given : TzOffset → Given
zone_given offset =
    record { total = total_shown offset; name = (span_shown offset).name; saving = int_lt (pos 0) (span_shown offset).dst_offset }

abbrev pub source_given : Source → Given
source_given (Zone offset) = zone_given offset
source_given (Text name offset saving) = record { total = offset; name = name.now; saving = saving }

abbrev pub given_of : PosixTzOffset → Given
given_of offset = source_given offset.source
