-- The schedule of what was compiled.
use Rattle.std.{specs.Prelude.{◌≡◌, map}, proofs.Common.{sym}}
use Rattle.zone_spans.specs.{Entries.{total}, Schedules.{totals_of}}
use Rattle.zone_spans.specs.declared.span.FixedTimespanSet as spans
use Rattle.tz_lookup.specs.{Sets.{shift_of, schedule_of}, declared.set.FixedTimespanSet.{FixedTimespanSet}}

-- a set with the spans that were compiled has their totals
pub totals_same : (set : FixedTimespanSet) (compiled : spans.FixedTimespanSet) → set.first ≡ compiled.first → set.others ≡ compiled.rest
    → totals_of compiled ≡ schedule_of set
unfolding totals_of
totals_same set compiled first others = λ i. record { first = total (sym first i); shifts = map shift_of (sym others i) }
