-- What is seen of the front of a set for ever.
use Rattle.std.specs.Prelude.{take}
use Rattle.tz_ever.specs.ZoneShown.{zone_set_of}
use Rattle.tz_lookup.specs.declared.set.FixedTimespanSet.{FixedTimespanSet}
use Rattle.zone_tzif.specs.declared.until.Until.{Until}

-- its first entries
abbrev pub until_of : Until → FixedTimespanSet
until_of front = record {
  name = (zone_set_of front.set.now).name;
  first = (zone_set_of front.set.now).first;
  others = take front.count (zone_set_of front.set.now).others;
}
