-- What a name finds in a table for ever, and why it finds nothing.
use Rattle.std.specs.{Prelude.{◌≡◌, ℕ, List, Bool, Option, Some, true, false, Result, Ok, Err, ℤ}, List.{list_all}, FinMap.{get}}
use Rattle.zone_table.specs.{Resolved.{resolved_in}, declared.table.Table.{Table}, declared.zone.ZoneInfo.{ZoneInfo}}
use Rattle.zone_spans.specs.{Bounds.{is_bounded_line}, Compiled.{compiled}, GoesOn.{GoesOn, goes_on}, Lines.{zone_lines}, Schedules.{is_in_offset_range, totals_of}, declared.fault.SpanFault.{SpanFault}, declared.fault.SpanFault.TheVariants.{DayRange}}
use Rattle.zone_spans.specs.declared.span.FixedTimespanSet as spans
use Rattle.tz_ever.specs.{AnyYear.{span_for_ever, total_for_ever}, Ever.{ever_span, ever_total}, ForEver.{IsForEver, ever_years}, declared.open.EverFault.{EverFault}, declared.open.EverFault.TheVariants.{LaterDay, LaterOffset, RulesEnd, Zone}}
use Rattle.tz_lookup.specs.{Compiles.{IsTooFar, IsZoneFault, compiled_in, compiled_in_over}, declared.compile.ZoneFault.{ZoneFault}, declared.set.FixedTimespanSet.{FixedTimespanSet}}
use Rattle.tz_lookup.specs.declared.compile.ZoneFault.TheVariants as zone_fault

-- a name finds a zone with these lines, which has a schedule today whose totals are offsets
pub record IsZoneToday (table : Table) (name : List ℕ) : Type 0 where
  pub infos : List ZoneInfo
  pub is_found : resolved_in table name ≡ Some infos
  pub today : spans.FixedTimespanSet
  pub compiles : compiled (get table.rulesets) infos ≡ Ok today
  pub range : is_in_offset_range (totals_of today) ≡ true

-- so it does, and the zone goes on
pub record IsGoing (table : Table) (name : List ℕ) : Type 0 where
  pub zone : IsZoneToday table name
  pub goes_on : GoesOn (get table.rulesets) zone.infos
  pub bounded : list_all is_bounded_line (zone_lines (get table.rulesets) zone.infos) ≡ true

-- so it does, and the zone doesn't go on
pub record DoesNotGoOn (table : Table) (name : List ℕ) : Type 0 where
  pub zone : IsZoneToday table name
  pub ends : goes_on (zone_lines (get table.rulesets) zone.infos) ≡ false

-- a day of the lines lies in another year than its own
abbrev pub leaves_year : Option (Result spans.FixedTimespanSet SpanFault) → Bool
leaves_year (Some (Err DayRange)) = true
leaves_year _ = false

-- whether one does in the years to 2503
abbrev pub leaves_year_later : Table → List ℕ → Bool
leaves_year_later table name = leaves_year (compiled_in_over ever_years table name)

-- the zone goes on, and has a greater offset over 704 years
pub record IsTooFarLater (table : Table) (name : List ℕ) : Type 0 where
  pub zone : IsGoing table name
  pub far : IsTooFar (compiled_in_over ever_years table name)

-- why a name has no zone for ever; want of memory may come in place of any
abbrev pub IsEverFault : Table → List ℕ → EverFault → Type 0
IsEverFault table name (Zone fault) = IsZoneFault (compiled_in table name) fault
IsEverFault table name LaterDay = DoesNotGoOn table name × (leaves_year_later table name ≡ true)
IsEverFault table name RulesEnd = DoesNotGoOn table name × (leaves_year_later table name ≡ false)
IsEverFault table name LaterOffset = IsTooFarLater table name

-- a set says all that the zone of a name shows for ever, at each instant in nanoseconds: the total, and the span with its
-- abbreviation and its saving
pub record IsFoundForEver (table : Table) (name : List ℕ) (set : FixedTimespanSet) : Type 0 where
  pub infos : List ZoneInfo
  pub is_found : resolved_in table name ≡ Some infos
  pub named : set.name ≡ name
  pub zone : IsForEver (get table.rulesets) infos set
  pub total : (t : ℤ) → ever_total set t ≡ total_for_ever (get table.rulesets) infos t
  pub span : (t : ℤ) → Some (ever_span set t) ≡ span_for_ever (get table.rulesets) infos t

-- a fault of a zone over 704 years that has none over 300
abbrev pub IsLater : ZoneFault → Type 0
IsLater zone_fault.UnknownZone = ⊥
IsLater (zone_fault.Schedule fault) = ⊥
IsLater zone_fault.OffsetRange = Unit {0}
IsLater zone_fault.NoMemory = Unit {0}

-- why lines don't go on that over 704 years have this fault
abbrev pub ending_by : SpanFault → EverFault
ending_by DayRange = LaterDay
ending_by fault = RulesEnd

abbrev pub fault_later : ZoneFault → EverFault
fault_later zone_fault.OffsetRange = LaterOffset
fault_later fault = Zone fault
