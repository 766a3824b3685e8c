-- What the parts of a run find out.
use Rattle.std.specs.Prelude.{◌≡◌, Option, Some, None, IfSome, Err}
use Rattle.tz_lookup.specs.declared.compile.ZoneFault.TheVariants as zone
use Rattle.zone_run.specs.{Readings.{Found, ZoneCause, unknown_zone, bad_schedule, offset_range, rules_end}, declared.found.FindFault.{FindFault}, declared.found.FindFault.TheVariants.{Zone, RulesEnd}}

-- the cause that a fault tells; want of memory tells none
abbrev pub cause_told : FindFault → Option ZoneCause
cause_told (Zone zone.UnknownZone) = Some unknown_zone
cause_told (Zone (zone.Schedule fault)) = Some (bad_schedule fault)
cause_told (Zone zone.OffsetRange) = Some offset_range
cause_told (Zone zone.NoMemory) = None
cause_told RulesEnd = Some rules_end

-- it tells why there is nothing to ask, or want of memory
abbrev pub TellsCause : {X : Type 0} → Found X → FindFault → Type 0
TellsCause found fault = IfSome (cause_told fault) (λ cause. found ≡ Err cause)
