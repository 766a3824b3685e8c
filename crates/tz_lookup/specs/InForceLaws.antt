-- What a span that is in force gives, and a local time at an offset.
use Rattle.std.{specs.Prelude.{◌≡◌, ℕ, ℤ, pos, int_lt}, proofs.Common.{ap}}
use Rattle.civil_base.specs.{DateTimes.{at_offset, instant-at_offset, offset_of-at_offset}, Instants.{instant_at}}
use Rattle.zone_spans.specs.declared.span.FixedTimespan.{FixedTimespan}
use Rattle.tz_lookup.specs.{InForce.{GivesAt, IsInForce, shown_of}, Sets.{span_in}, declared.set.FixedTimespanSet.{FixedTimespanSet}}

-- its abbreviation and its kind are what the set gives at the instant
pub gives_at : (set : FixedTimespanSet) (k : ℕ) (t : ℤ) (span : FixedTimespan) → IsInForce set k t → span ≡ span_in set k
    → GivesAt set t span.name (int_lt (pos 0) span.dst_offset)
gives_at set k t span in_force is = record {
  span = k;
  in_force = in_force;
  named = ap (λ (s : FixedTimespan). s.name) is;
  saves = ap (λ (s : FixedTimespan). int_lt (pos 0) s.dst_offset) is;
}

-- a local time at an offset, seen as an instant and an offset
pub shown_at_offset : (x o : ℤ) → shown_of (at_offset x o) ≡ (instant_at x o, o)
unfolding shown_of
shown_at_offset x o = λ i. (instant-at_offset x o i, offset_of-at_offset x o i)
