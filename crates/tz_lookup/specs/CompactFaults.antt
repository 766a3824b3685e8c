-- Why a set has no compact form.
use Rattle.zone_spans.specs.Schedules.{Schedule}
use Rattle.tz_lookup.specs.{Faults.{IsFault}, declared.set.TzFault.{TzFault}, declared.compact_set.CompactFault.{CompactFault, TheVariants.{OffsetRange, Falling, Bound, NoMemory}}}
use Rattle.tz_lookup.specs.declared.set.TzFault.TheVariants as zone

-- the same fault
abbrev pub compact_fault : TzFault → CompactFault
compact_fault zone.OffsetRange = OffsetRange
compact_fault zone.Falling = Falling
compact_fault zone.Bound = Bound

-- it is the first fault of a zone; want of memory may come in place of any
abbrev pub IsCompactFault : Schedule → CompactFault → Type 0
IsCompactFault schedule OffsetRange = IsFault schedule zone.OffsetRange
IsCompactFault schedule Falling = IsFault schedule zone.Falling
IsCompactFault schedule Bound = IsFault schedule zone.Bound
IsCompactFault schedule NoMemory = Unit {0}
