-- What a value stands for over the zones of a database, in byte order of their names.
use Rattle.std.specs.{Prelude.{ℕ, List, Option, Some, None, Result, Ok, Err, codes, ℤ, pos, ◌+ℤ◌}, List.{find}, Option.{option_map_or}, Str.{bytes_eq}}
use Rattle.tz_lookup.specs.{Databases.{has_part}, declared.set.FixedTimespanSet.{FixedTimespanSet}}
use Rattle.tz_posix.specs.{InForce.{yearly_time}, PosixZones.{Named, PosixZone, zone, fixed, ruled, borrowed}, Seconds.{east_of}, Values.{StdPart, DstPart, TzValue, short, expanded}, declared.time.Time.{Time}, declared.values.Rule.{Rule}}

abbrev pub standard_of : StdPart → Named
standard_of std = record { name = std.name; total = east_of std.offset }

-- daylight saving time without an offset of its own is an hour ahead of standard time
abbrev pub saving_of : DstPart Time → ℤ → Named
saving_of dst standard = record { name = dst.name; total = option_map_or east_of dst.offset (standard +ℤ pos 3600) }

-- the first zone whose name has the part, and the zone of a name
abbrev pub zone_with : List FixedTimespanSet → List ℕ → Option FixedTimespanSet
zone_with zones part = find (λ set. has_part part set.name) zones

abbrev pub zone_named : List FixedTimespanSet → List ℕ → Option FixedTimespanSet
zone_named zones name = find (λ set. bytes_eq name set.name) zones

-- what is made of a zone, or the name that none has
abbrev pub made_of : (FixedTimespanSet → PosixZone) → List ℕ → Option FixedTimespanSet → Result PosixZone (List ℕ)
made_of make name None = Err name
made_of make name (Some set) = Ok (make set)

-- the zone whose rule a text without one borrows
abbrev pub new_york : List ℕ
new_york = codes "America/New_York"

abbrev pub by_rule : List FixedTimespanSet → Named → Named → Option (Rule Time) → Result PosixZone (List ℕ)
by_rule zones standard saving (Some rule) = Ok (ruled standard saving (yearly_time rule.start) (yearly_time rule.end))
by_rule zones standard saving None = made_of (borrowed standard saving) new_york (zone_named zones new_york)

-- what a value stands for, or the name that is unknown
unfoldable pub resolved : List FixedTimespanSet → TzValue → Result PosixZone (List ℕ)
resolved zones (short name) = made_of zone name (zone_with zones name)
resolved zones (expanded std None) = Ok (fixed (standard_of std))
resolved zones (expanded std (Some dst)) = by_rule zones (standard_of std) (saving_of dst (standard_of std).total) dst.rule
