-- What is seen of a zone of spans and of its offsets.
use Rattle.std.specs.Prelude.{ℤ, pos, int_lt}
use Rattle.civil_base.specs.Instants.{instant_at}
use Rattle.zone_spans.specs.declared.span.FixedTimespan.{FixedTimespan}
use Rattle.tz_lookup.specs.{InForce.{GivesAt}, declared.set.FixedTimespanSet.{FixedTimespanSet}, declared.tz.Tz.{Tz}, declared.tz.TzOffset.{TzOffset}}

-- the set of a zone
abbrev pub set_of : Tz → FixedTimespanSet
set_of zone = zone.set.now

-- the span that has an offset
abbrev pub span_shown : TzOffset → FixedTimespan
span_shown offset = offset.span.now

abbrev pub total_shown : TzOffset → ℤ
total_shown offset = offset.offset

-- a set gives this offset, its abbreviation and its kind, at the instant that it reads as the local time x at it
abbrev pub IsGivenFor : FixedTimespanSet → ℤ → TzOffset → Type 0
IsGivenFor set x offset =
    GivesAt set (instant_at x (total_shown offset)) (span_shown offset).name (int_lt (pos 0) (span_shown offset).dst_offset)
