-- The file of a zone for ever, at worked rows.
use Rattle.std.proofs.Common.{◌≡◌, Bool, true, false, [], ◌∷◌, map, Option, Some, None, codes, refl, ℤ, pos, negsuc, ℕ}
use Rattle.tz_posix.specs.declared.{date.Date.TheVariants.{M}, time.Offset.{Offset}}
use Rattle.zone_spans.specs.declared.span.FixedTimespan.{FixedTimespan}
use Rattle.tz_tzif.specs.Values.{FooterValue}
use Rattle.tz_lookup.specs.declared.set.FixedTimespanSet.{FixedTimespanSet}
use Rattle.zone_tzif_core.specs.{Zones.{KindValue}, declared.values.Version.TheVariants.{Two, Three}}
use Rattle.zone_tzif.specs.{EverFiles.{entries_until, ever_zone, version_for}, Values.{value_by}}

abbrev time : Bool → ℕ → ℕ → Option Offset
time positive hours minutes = Some (record { positive = positive; time = record { hh = hours; mm = Some minutes; ss = None } })

-- a start in March and an end in October, with these times
abbrev with_times : Option Offset → Option Offset → FooterValue
with_times start end = record {
  standard = record { name = codes "EST"; offset = record { positive = true; time = record { hh = 5; mm = None; ss = None } } };
  saving = Some (record { name = codes "EDT"; offset = None; rule = record { start = (M 3 2 0, start); end = (M 10 5 0, end) } });
}

-- a time of 24:59 is one of version 2, one of 25:00 or below 0, at either end, of version 3
versions : map version_for (with_times None None ∷ with_times (time true 24 59) None ∷ with_times (time true 25 0) None ∷ with_times None (time true 167 0)
    ∷ with_times (time false 0 1) None ∷ with_times None (time false 1 0) ∷ record { standard = (with_times None None).standard; saving = None } ∷ [])
    ≡ Two ∷ Two ∷ Three ∷ Three ∷ Three ∷ Three ∷ Two ∷ []
versions = refl

abbrev irish : ℤ → FixedTimespan
irish saving = record { utc_offset = pos 3600; dst_offset = saving; name = codes "A" }

abbrev kind : ℤ → Bool → KindValue
kind total saves = record { utoff = total; is_dst = saves; name = codes "A" }

abbrev set : FixedTimespanSet
set = record {
  name = codes "A/B";
  first = irish (pos 0);
  others = (pos 5, irish (negsuc 3599)) ∷ (pos 4165516800, irish (pos 0)) ∷ (pos 4165516801, irish (negsuc 3599)) ∷ [];
}

-- the changes up to 2102; a saving below 0, as in Dublin's winter, is daylight saving time
until_there : ever_zone set (codes "F")
    ≡ record { first = kind (pos 3600) false; rest = (pos 5, kind (pos 0) true) ∷ (pos 4165516800, kind (pos 3600) false) ∷ []; footer = codes "F" }
unfolding value_by entries_until
until_there = refl
