-- What a compiled file opens as: spans, and whether they come again.
use Rattle.std.specs.Prelude.{◌≡◌, ℕ, Bool, true, List, Option, Some, ℤ, pos, ◌-ℤ◌, ◌≤ℤ◌, ◌<ℤ◌, if◌then◌else◌}
use Rattle.civil_base.specs.{Instants.{seconds_of}, Ranges.{IsOffset}}
use Rattle.zone_spans.specs.{Entries.{Entry}, declared.span.FixedTimespan.{FixedTimespan}}
use Rattle.tz_lookup.specs.{Sets.{IsAccepted, schedule_of}, declared.set.FixedTimespanSet.{FixedTimespanSet}}
use Rattle.tz_ever.specs.{InForce.{span_by}, Recurrences.{RepeatsAs, zone_span}, declared.recurrence.Recurrence.{Recurrence}, declared.recurrence.Recurrence.TheVariants.{Never, Later, Always}}
use Rattle.tz_tzif.specs.{Faults.{IsAcceptedFile}, FooterForce.{FooterZone, standard_total}, InForce.{are_over, kind_at}, Years.{HasDate, end_of_dated, first_dated}, declared.spans.FileSpans.{FileSpans}}
use Rattle.zone_tzif_core.specs.Zones.{KindValue, ZoneValue}

-- a file says only whether it is daylight saving time; an hour stands for it
abbrev pub saving_of : Bool → ℤ
saving_of is_dst = if is_dst then pos 3600 else pos 0

-- the total, the flag and the name are those of a kind
unfoldable pub span_of : KindValue → FixedTimespan
span_of kind = record { utc_offset = kind.utoff -ℤ saving_of kind.is_dst; dst_offset = saving_of kind.is_dst; name = kind.name }

-- the set of that name can be looked up, comes again or not, and shows at each instant that has a date what the file puts in force
pub record IsOpenedAs (name : List ℕ) (value : ZoneValue) (opened : FileSpans) : Type 0 where
  pub says : Option FooterZone
  pub file : IsAcceptedFile value says
  pub named : opened.set.name ≡ name
  pub accepted : IsAccepted (schedule_of opened.set)
  pub repeats : RepeatsAs opened.recurrence opened.set
  pub shows : (t : ℤ) → HasDate (seconds_of t) → zone_span opened.recurrence opened.set t ≡ span_of (kind_at value says t)
