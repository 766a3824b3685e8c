-- Why a zone can't be asked for ever.
use Rattle.std.specs.Prelude.{◌≡◌, ℕ}
use Rattle.zone_spans.specs.declared.fault.SpanFault.TheVariants.{DayRange}
use Rattle.tz_ever.specs.declared.open.EverFault.{EverFault, TheVariants.{Zone, LaterDay, RulesEnd, LaterOffset}}
use Rattle.tz_lookup.specs.declared.compile.ZoneFault.TheVariants as zone
use Rattle.zone_answers.specs.{Told.{RefusesZone}, declared.error.ReadingError.{ReadingError}}
use Rattle.zone_answers.specs.declared.error.ReadingError.TheVariants as error
use Rattle.zone_run.specs.declared.found.FindFault.{FindFault}
use Rattle.zone_run.specs.declared.found.FindFault.TheVariants as find

-- what of the faults of one zone stands for it
abbrev pub find_fault : EverFault → FindFault
find_fault (Zone fault) = find.Zone fault
find_fault LaterDay = find.Zone (zone.Schedule DayRange)
find_fault RulesEnd = find.RulesEnd
find_fault LaterOffset = find.Zone zone.OffsetRange

-- why the zone that the nth request names can't be asked
abbrev pub Refuses : ℕ → FindFault → ReadingError → Type 0
Refuses n (find.Zone fault) (error.Answer e) = RefusesZone n fault e
Refuses n (find.Zone fault) (error.RulesEnd m) = ⊥
Refuses n find.RulesEnd e = e ≡ error.RulesEnd n
