-- What a compiled set is in a file.
use Rattle.std.specs.{Prelude.{ℕ, ℤ, pos, Bool, not, int_lt, List, map}, Ordering.{int_eq}}
use Rattle.zone_spans.specs.{Entries.{Entry, total}, declared.span.FixedTimespan.{FixedTimespan}}
use Rattle.tz_lookup.specs.declared.set.FixedTimespanSet.{FixedTimespanSet}
use Rattle.zone_tzif_core.specs.Zones.{KindValue, ZoneValue}
use Rattle.zone_tzif.specs.declared.convert.Saves.{Saves, TheVariants.{Above, Any}}

-- which saving is daylight saving time: one above 0, or any but 0
abbrev pub is_saved : Saves → ℤ → Bool
is_saved Above saving = int_lt (pos 0) saving
is_saved Any saving = not (int_eq saving (pos 0))

-- the offset with the saving, and whether it is daylight saving time
abbrev pub kind_by : Saves → FixedTimespan → KindValue
kind_by saves span = record { utoff = total span; is_dst = is_saved saves span.dst_offset; name = span.name }

abbrev pub change_by : Saves → Entry → ℤ × KindValue
change_by saves entry = (entry.0, kind_by saves entry.1)

-- the spans as kinds, from the same times on
unfoldable pub value_by : Saves → FixedTimespanSet → List ℕ → ZoneValue
value_by saves set footer = record { first = kind_by saves set.first; rest = map (change_by saves) set.others; footer = footer }

-- where a saving above 0 is daylight saving time
abbrev pub kind_of : FixedTimespan → KindValue
kind_of = kind_by Above

abbrev pub value_of : FixedTimespanSet → List ℕ → ZoneValue
value_of = value_by Above
