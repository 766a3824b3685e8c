-- What a compiled zone puts in force, with what its footer says from its last change on. Seconds and instants count from
-- 1970-01-01 00:00:00 UTC.
use Rattle.std.specs.{Prelude.{Bool, ℤ, int_le, List, filter, Option, Some, None, if◌then◌else◌}, List.{list_all}}
use Rattle.civil_base.specs.Instants.{seconds_of}
use Rattle.tz_tzif.specs.FooterForce.{FooterZone, held_at}
use Rattle.zone_tzif_core.specs.{Totals.{last_kind}, Zones.{KindValue, ZoneValue}}

-- each change is at or before the second
abbrev pub are_over : List (ℤ × KindValue) → ℤ → Bool
are_over changes s = list_all (λ change. int_le change.0 s) changes

-- that of the last change at or before the second
abbrev pub changed_kind : ZoneValue → ℤ → KindValue
changed_kind zone s = last_kind zone.first (filter (λ change. int_le change.0 s) zone.rest)

-- from the last change on what the footer says, if it says anything
unfoldable pub kind_in : ZoneValue → Option FooterZone → ℤ → KindValue
kind_in zone None s = changed_kind zone s
kind_in zone (Some footer) s = if are_over zone.rest s then held_at footer s else changed_kind zone s

-- the kind at an instant in nanoseconds
unfoldable pub kind_at : ZoneValue → Option FooterZone → ℤ → KindValue
kind_at zone footer t = kind_in zone footer (seconds_of t)

-- its seconds east of UTC
abbrev pub total_in : ZoneValue → Option FooterZone → ℤ → ℤ
total_in zone footer s = (kind_in zone footer s).utoff

abbrev pub told_total_at : ZoneValue → Option FooterZone → ℤ → ℤ
told_total_at zone footer t = (kind_at zone footer t).utoff
