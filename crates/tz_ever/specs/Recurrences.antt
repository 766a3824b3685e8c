-- What a set of spans shows where the changes of its cycle come again.
use Rattle.std.specs.Prelude.{ℕ, Bool, true, false, ◌&&◌, List, ℤ, pos, ◌≡◌, ◌+ℤ◌, int_le, int_lt, if◌then◌else◌}
use Rattle.zone_spans.specs.{Schedules.{total_at}, declared.span.FixedTimespan.{FixedTimespan}}
use Rattle.tz_ever.specs.{Ever.{IsRepeating}, InForce.{span_at}, Seam.{brought_back, next_seam_day, seam, seam_day}, declared.recurrence.Recurrence.{Recurrence}, declared.recurrence.Recurrence.TheVariants.{Never, Later, Always}}
use Rattle.tz_lookup.specs.{Compiles.{spans_of}, Sets.{schedule_of}, declared.set.FixedTimespanSet.{FixedTimespanSet}}

-- an instant, or a local time, before the seam 31 cycles of 400 years later: each from the year -10298 on comes behind the seam
unfoldable pub brought_on : ℤ → ℤ
brought_on x = if int_lt x seam then x +ℤ pos 391306204800000000000 else x

-- the instant in the years that are kept which stands for an instant
unfoldable pub turned : Recurrence → ℤ → ℤ
turned Never t = t
turned Later t = brought_back t
turned Always t = brought_back (brought_on t)

-- the changes of the cycle come again
abbrev pub comes_again : Recurrence → Bool
comes_again Never = false
comes_again Later = true
comes_again Always = true

-- at the seam a set whose cycle comes again shows what it shows a cycle later
abbrev pub RepeatsAs : Recurrence → FixedTimespanSet → Type 0
RepeatsAs recurrence set = comes_again recurrence ≡ true → IsRepeating set

-- the offset, the saving and the abbreviation at an instant, in nanoseconds from 1970-01-01 00:00:00 UTC
unfoldable pub zone_span : Recurrence → FixedTimespanSet → ℤ → FixedTimespan
zone_span recurrence set t = span_at (spans_of set) (turned recurrence t)

-- and the total in force
unfoldable pub zone_total : Recurrence → FixedTimespanSet → ℤ → ℤ
zone_total recurrence set t = total_at (schedule_of set) (turned recurrence t)

-- what is in force has this abbreviation, and its saving is above 0 or not
pub record ZoneGives (recurrence : Recurrence) (set : FixedTimespanSet) (t : ℤ) (name : List ℕ) (saving : Bool) : Type 0 where
  pub named : name ≡ (zone_span recurrence set t).name
  pub saves : saving ≡ int_lt (pos 0) (zone_span recurrence set t).dst_offset

-- the day of a date is among those that are kept, so that nothing is turned
abbrev pub is_kept : Recurrence → ℤ → Bool
is_kept Never day = true
is_kept Later day = int_lt day next_seam_day
is_kept Always day = int_le seam_day day && int_lt day next_seam_day
