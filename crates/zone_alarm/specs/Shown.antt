-- What a ring of the code shows.
use Rattle.std.specs.Prelude.{Option, option_map, ℤ}
use Rattle.tz_lookup.specs.InForce.{shown_of}
use Rattle.zone_alarm.specs.declared.ring.Ring.{Ring}

-- the day, and the instant and the offset of the ring
abbrev pub ring_shown : Ring → ℤ × Option (ℤ × ℤ)
ring_shown ring = (ring.date, option_map shown_of ring.at)
