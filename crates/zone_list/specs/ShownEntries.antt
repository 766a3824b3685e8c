-- The date-time that an entry is shown as.
use Rattle.std.specs.Prelude.{◌≡◌}
use Rattle.civil_base.specs.{DateTimes.{instant, offset_of}, Instants.{nanos_of}, declared.offset_date_time.OffsetDateTime.{OffsetDateTime}}
use Rattle.zone_spans.specs.Entries.{Entry, total}

-- the instant of the entry's time, at the entry's own total
pub record IsShownAs (entry : Entry) (shown : OffsetDateTime) : Type 0 where
  pub at : instant shown ≡ nanos_of entry.0
  pub offset : offset_of shown ≡ total entry.1
