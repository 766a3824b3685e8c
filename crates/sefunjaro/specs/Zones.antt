-- What is seen of a zone that is kept open.
use Rattle.std.specs.Prelude.{◌≡◌, ◌⊎◌, ◌<ℤ◌, ℕ, ℤ, pos, Bool, List, Option, Some, None, Result, refl}
use Rattle.zone_spans.specs.{Schedules.{total_at}, Years.{latest_year}, declared.fault.SpanFault.{SpanFault}, declared.span.FixedTimespan.{FixedTimespan}}
use Rattle.zone_spans.specs.declared.span.FixedTimespanSet as spans
use Rattle.zone_table.specs.declared.table.Table.{Table}
use Rattle.tz_ever.specs.{InForce.{span_at}, Opens.{DoesNotGoOn, IsFoundForEver, IsTooFarLater}, Recurrences.{ZoneGives, zone_span, zone_total}, Unrolled.{told}, ZoneShown.{recurrence_of, zone_set_of}, declared.zone_set.ZoneSet.{ZoneSet}}
use Rattle.tz_ever.specs.declared.{recurrence.Recurrence.{Recurrence}, recurrence.Recurrence.TheVariants.{Never, Later, Always}}
use Rattle.tz_lookup.specs.{Compiles.{IsCompiledAs, spans_of}, Sets.{schedule_of}, declared.set.FixedTimespanSet.{FixedTimespanSet}, CompactShown.{seen}, declared.compact_set.CompactSet.{CompactSet}}
use Rattle.sefunjaro.specs.declared.zone.{OpenZone.{OpenZone}, Origin.{Origin}, Origin.TheVariants.{Source, File}}

-- the set of all its changes that are kept, and whether they come again
abbrev pub all_in : OpenZone → FixedTimespanSet
all_in zone = zone_set_of zone.zone

abbrev pub origin_in : OpenZone → Origin
origin_in zone = zone.origin

abbrev pub recurrence_in : OpenZone → Recurrence
recurrence_in zone = recurrence_of zone.zone

-- the set that says what is in force up to the end of 2099
abbrev pub set_with : ZoneSet → Option CompactSet → FixedTimespanSet
set_with zone None = zone_set_of zone
set_with zone (Some set) = seen set

abbrev pub set_in : OpenZone → FixedTimespanSet
set_in zone = set_with zone.zone zone.to_2099

-- what is in force for ever, if it goes on
abbrev pub ever_with : ZoneSet → Option CompactSet → Option ZoneSet
ever_with zone None = None
ever_with zone (Some set) = Some zone

abbrev pub ever_in : OpenZone → Option ZoneSet
ever_in zone = ever_with zone.zone zone.to_2099

-- then its changes come again later, and else never
abbrev pub recurrence_with : Option ZoneSet → Recurrence
recurrence_with None = Never
recurrence_with (Some zone) = Later

-- the set to the end of 2099 is that of all changes, but where it goes on: these are then what goes on
abbrev pub IsKept : FixedTimespanSet → FixedTimespanSet → Option ZoneSet → Type 0
IsKept set all None = set ≡ all
IsKept set all (Some zone) = zone_set_of zone ≡ all

kept_with : (zone : ZoneSet) (to_2099 : Option CompactSet) → IsKept (set_with zone to_2099) (zone_set_of zone) (ever_with zone to_2099)
kept_with zone None = refl
kept_with zone (Some set) = refl

pub kept_as : (zone : OpenZone) → IsKept (set_in zone) (all_in zone) (ever_in zone)
kept_as zone = kept_with zone.zone zone.to_2099

-- it is what was compiled under a name
abbrev pub IsOpened : List ℕ → Option (Result spans.FixedTimespanSet SpanFault) → OpenZone → Type 0
IsOpened name found zone = ((set_in zone).name ≡ name) × IsCompiledAs (set_in zone) found

-- it goes on as the lines do that a name finds in a table; or these don't go on, or come to an offset of 26 hours or more
abbrev pub GoesOnAs : Table → List ℕ → Option ZoneSet → Type 0
GoesOnAs table name (Some zone) = IsFoundForEver table name (zone_set_of zone)
GoesOnAs table name None = DoesNotGoOn table name ⊎ IsTooFarLater table name

-- the seconds east of UTC that are in force at an instant, in nanoseconds from 1970-01-01 00:00:00 UTC
abbrev pub kept_total : ZoneSet → ℤ → ℤ
kept_total zone = zone_total (recurrence_of zone) (zone_set_of zone)

abbrev pub total_in : OpenZone → ℤ → ℤ
total_in zone = kept_total zone.zone

-- an abbreviation is in force at an instant, with a saving above 0 or without one
abbrev pub given_in : OpenZone → ℤ → List ℕ → Bool → Type 0
given_in zone = ZoneGives (recurrence_in zone) (all_in zone)

-- the offset, the saving and the abbreviation at an instant
abbrev pub span_in : OpenZone → ℤ → FixedTimespan
span_in zone = zone_span (recurrence_in zone) (all_in zone)

-- all this is at an instant what the set to the end of 2099 has
pub record ShowsAt (zone : OpenZone) (t : ℤ) : Type 0 where
  pub total : total_in zone t ≡ total_at (schedule_of (set_in zone)) t
  pub span : span_in zone t ≡ span_at (spans_of (set_in zone)) t

-- so it is before 2099-11-27 06:40:00 UTC: until then a zone that goes on shows what was compiled
abbrev pub IsAsCompiled : OpenZone → Type 0
IsAsCompiled zone = (t : ℤ) → t <ℤ pos 4099444800000000000 → ShowsAt zone t

-- the spans that its changes begin: where they come again, up to the end of 10501
abbrev pub spans_in : OpenZone → FixedTimespanSet
spans_in zone = told (recurrence_in zone) (all_in zone)

-- the last year up to whose end it says what is in force: the last of all years, or of a source's zone that ends the last that a set is
-- worked out for
abbrev pub last_year : Origin → Recurrence → ℤ
last_year Source Never = pos latest_year
last_year Source Later = pos 9999
last_year Source Always = pos 9999
last_year File recurrence = pos 9999
