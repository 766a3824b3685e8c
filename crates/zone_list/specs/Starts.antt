-- How the program ends that was started.
use Rattle.std.specs.Prelude.{codes}
use Rattle.zone_run.specs.Starts.{StartsZone}
use Rattle.zone_source.specs.declared.starting.Started.{Started}
use Rattle.zone_list.specs.Asks.{form}

abbrev pub StartsList : Started → Type 0
StartsList started = StartsZone (codes "list") form started
