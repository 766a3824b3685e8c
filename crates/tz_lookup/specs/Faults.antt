-- Why a set can't be looked up.
use Rattle.std.specs.Prelude.{IsTrue}
use Rattle.zone_spans.specs.Schedules.{Schedule, is_in_offset_range}
use Rattle.tz_lookup.specs.{declared.set.TzFault.{TzFault}, declared.set.TzFault.TheVariants.{OffsetRange, Falling, Bound}, Spans.{TimesDontFall}, Sets.{AreSpanTimes}}

-- this is the first fault
abbrev pub IsFault : Schedule → TzFault → Type 0
IsFault zone OffsetRange = IsTrue (is_in_offset_range zone) → ⊥
IsFault zone Falling = IsTrue (is_in_offset_range zone) × (TimesDontFall zone.shifts → ⊥)
IsFault zone Bound = IsTrue (is_in_offset_range zone) × TimesDontFall zone.shifts × (AreSpanTimes zone.shifts → ⊥)
