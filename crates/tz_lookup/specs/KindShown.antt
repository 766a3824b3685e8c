-- What the code's kind shows.
use Rattle.zone_spans.specs.declared.span.FixedTimespan.{FixedTimespan}
use Rattle.tz_lookup.specs.declared.compact_set.Kind.{Kind}

abbrev pub kind_shown : Kind → FixedTimespan
kind_shown kind = record { utc_offset = kind.utc_offset; dst_offset = kind.dst_offset; name = kind.name.now }
