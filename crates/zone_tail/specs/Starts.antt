-- How the program ends that was started.
use Rattle.std.specs.Prelude.{codes}
use Rattle.zone_run.specs.Starts.{StartsZone}
use Rattle.zone_source.specs.declared.starting.Started.{Started}
use Rattle.zone_tail.specs.Asks.{form}

abbrev pub StartsTail : Started → Type 0
StartsTail started = StartsZone (codes "tail") form started
