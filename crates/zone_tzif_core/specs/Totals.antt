-- The offset that a zone has in force.
use Rattle.std.specs.Prelude.{ℤ, pos, ◌*ℤ◌, int_le, List, [], ◌∷◌, filter}
use Rattle.zone_tzif_core.specs.Zones.{KindValue, ZoneValue}

abbrev pub last_kind : KindValue → List (ℤ × KindValue) → KindValue
last_kind kind [] = kind
last_kind kind (shift ∷ shifts) = last_kind shift.1 shifts

-- the offset at an instant in nanoseconds since 1970-01-01 00:00:00 UTC: that of the last change at or before it
unfoldable pub file_total_at : ZoneValue → ℤ → ℤ
file_total_at zone instant = (last_kind zone.first (filter (λ shift. int_le (shift.0 *ℤ pos 1000000000) instant) zone.rest)).utoff
