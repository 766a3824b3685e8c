-- What a set's string is read as, and where it gives the set's offset.
use Rattle.std.specs.Prelude.{◌≡◌, ℕ, false, List, Option, Some, None, Ok, ℤ, ◌≤ℤ◌, ◌<ℤ◌}
use Rattle.civil_base.specs.Instants.{seconds_of}
use Rattle.zone_spans.specs.Schedules.{total_at}
use Rattle.tz_lookup.specs.{Sets.{schedule_of}, declared.set.FixedTimespanSet.{FixedTimespanSet}}
use Rattle.tz_posix.specs.{PosixZones.{Given, Gives, PosixZone, posix_refusal}, Ranges.{posix_range}, Resolved.{resolved}, Spells.{Spells}, Values.{TzValue}}
use Rattle.zone_tail.specs.{Settled.{IsPastChanges, IsSettled}, Tails.{end_of_last_year, is_ending_early}}

-- at or after the second from which on a string says the same; none stands for the beginning of time
abbrev pub IsFrom : Option ℤ → ℤ → Type 0
IsFrom None second = Unit {0}
IsFrom (Some from) second = from ≤ℤ second

-- an instant of the span of time that a string carries a set on through
pub record IsCovered (set : FixedTimespanSet) (from : Option ℤ) (t : ℤ) : Type 0 where
  pub begun : IsFrom from (seconds_of t)
  pub not_over : seconds_of t <ℤ end_of_last_year set

-- a text spells a value whose parts are in their ranges and which stands for the same time zone over every database; at each of these
-- instants that zone refuses nothing, and gives the set's offset alone; and its rule decides the last year by itself from the set's last
-- change on, unless daylight saving time ends in that year's first week
pub record CarriesOn (set : FixedTimespanSet) (from : Option ℤ) (text : List ℕ) : Type 0 where
  pub value : TzValue
  pub zone : PosixZone
  pub spelled : Spells text value
  pub in_range : posix_range value ≡ None
  pub stands_for : (zones : List FixedTimespanSet) → resolved zones value ≡ Ok zone
  pub accepts : (t : ℤ) → IsCovered set from t → posix_refusal zone t ≡ None
  pub settled : is_ending_early set ≡ false → (s : ℤ) → IsPastChanges set s → IsSettled zone s
  pub agrees : (t : ℤ) (given : Given) → IsCovered set from t → Gives zone t given → given.total ≡ total_at (schedule_of set) t
