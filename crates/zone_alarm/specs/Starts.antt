-- How the program ends that was started.
use Rattle.std.specs.Prelude.{codes}
use Rattle.zone_run.specs.Starts.{StartsZone}
use Rattle.zone_source.specs.declared.starting.Started.{Started}
use Rattle.zone_alarm.specs.Asks.{form}

abbrev pub StartsAlarm : Started → Type 0
StartsAlarm started = StartsZone (codes "alarm") form started
