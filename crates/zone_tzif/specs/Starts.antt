-- How the program ends that was started.
use Rattle.std.specs.Prelude.{codes}
use Rattle.zone_run.specs.Starts.{StartsZone}
use Rattle.zone_source.specs.declared.starting.Started.{Started}
use Rattle.zone_tzif.specs.Asks.{form}

abbrev pub StartsTzif : Started → Type 0
StartsTzif started = StartsZone (codes "tzif") form started
