-- Which entries have dates.
use Rattle.std.specs.{Prelude.{Bool, ◌&&◌, List}, List.{list_all}}
use Rattle.civil_base.specs.{Instants.{local_at, nanos_of}, Ranges.{is_in_years}}
use Rattle.zone_spans.specs.Entries.{Entry, total}

-- the UTC date of the entry's time and its local date at its own total lie in the years -9999 to 9999
abbrev pub has_dates : Entry → Bool
has_dates entry = is_in_years (nanos_of entry.0) && is_in_years (local_at (nanos_of entry.0) (total entry.1))

abbrev pub all_have_dates : List Entry → Bool
all_have_dates entries = list_all has_dates entries
