-- The walk from change to change of what is in force.
use Rattle.std.specs.Prelude.{◌≡◌, ℕ, ◌<◌, true, List, length, map, Option, Some, ℤ, pos, ◌≤ℤ◌, ◌<ℤ◌}
use Rattle.std.specs.List.{list_all}
use Rattle.civil_base.specs.{Instants.{seconds_of}, Ranges.{IsOffset, is_offset}}
use Rattle.zone_spans.specs.{Entries.{Entry}, declared.span.FixedTimespan.{FixedTimespan}}
use Rattle.tz_lookup.specs.{Sets.{AreSpanTimes, IsAccepted, schedule_of, shift_of}, Spans.{Shift, TimesDontFall, shift_at}, declared.set.FixedTimespanSet.{FixedTimespanSet}}
use Rattle.tz_ever.specs.{InForce.{span_by}, declared.recurrence.Recurrence.{Recurrence}, declared.recurrence.Recurrence.TheVariants.{Never, Later, Always}}
use Rattle.tz_tzif.specs.{FooterForce.{FooterZone, standard_total}, InForce.{are_over}, Opened.{span_of}, Years.{end_of_dated, first_dated}}
use Rattle.zone_tzif_core.specs.Zones.{KindValue, ZoneValue}

-- entries say what is in force from one second up to another, behind what is in force at the first of them
abbrev pub Tells : (ℤ → KindValue) → ℤ → ℤ → FixedTimespan → List Entry → Type 0
Tells kind from end first entries = (t : ℤ) → from ≤ℤ seconds_of t → seconds_of t <ℤ end → span_by first entries t ≡ span_of (kind (seconds_of t))

-- shifts that a set may have
pub record AreShifts (shifts : List Shift) : Type 0 where
  pub falls : TimesDontFall shifts
  pub bound : AreSpanTimes shifts
  pub range : list_all (λ (shift : Shift). is_offset shift.1) shifts ≡ true

abbrev pub AreBefore : List Shift → ℤ → Type 0
AreBefore shifts end = (i : ℕ) → i < length shifts → (shift_at shifts i).0 <ℤ end

pub record IsWalked (kind : ℤ → KindValue) (from end : ℤ) (entries : List Entry) : Type 0 where
  pub tells : Tells kind from end (span_of (kind from)) entries
  pub shifts : AreShifts (map shift_of entries)

-- a set that tells what is in force from one second up to another
pub record IsSetOver (kind : ℤ → KindValue) (from end : ℤ) (set : FixedTimespanSet) : Type 0 where
  pub accepted : IsAccepted (schedule_of set)
  pub tells : Tells kind from end set.first set.others

-- two days before 2102-01-01 00:00:00 UTC, and two days past the end of 2501
abbrev pub cycle_begin : ℤ
cycle_begin = pos 4165344000

abbrev pub cycle_end : ℤ
cycle_end = pos 16788470400

-- no change comes after a second, from which on a footer decides
pub record IsByFooter (value : ZoneValue) (says : Option FooterZone) (second : ℤ) : Type 0 where
  pub footer : FooterZone
  pub is : says ≡ Some footer
  pub range : IsOffset (standard_total footer)
  pub over : are_over value.rest second ≡ true

abbrev pub GoesAs : ZoneValue → Option FooterZone → Recurrence → Type 0
GoesAs value says Never = Unit {0}
GoesAs value says Later = IsByFooter value says cycle_begin
GoesAs value says Always = IsByFooter value says first_dated

-- the seconds from which and up to which such a set says what is in force
abbrev pub begin_of_set : Recurrence → ℤ
begin_of_set Never = first_dated
begin_of_set Later = first_dated
begin_of_set Always = cycle_begin

abbrev pub end_of_set : Recurrence → ℤ
end_of_set Never = end_of_dated
end_of_set Later = cycle_end
end_of_set Always = cycle_end
