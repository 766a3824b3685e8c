-- What is seen of a run: of the shelf, the clock and the environment, and of the exchange and standard error.
use Rattle.zone_command.specs.Ends.{ClockSeen, EnvironmentSeen, InSeen, OutSeen, Seen}
use Rattle.zone_outside.specs.{Seen.{output_seen, shelf_seen}, declared.exchange.Exchange.{Ghosts as ExchangeOf}, declared.outside.Sink.{Ghosts as SinkOf}, declared.outside.Source.{Ghosts as SourceOf}}
use Rattle.zone_outside.specs.declared.surroundings.{Environment.{Ghosts as EnvironmentOf}, WallClock.{Ghosts as ClockOf}}

abbrev pub clock_seen : {K : Type 0} → ClockOf K → K → ClockSeen
clock_seen of clock = record { told = of.told clock; faults = of.faults clock }

abbrev pub environment_seen : {V : Type 0} → EnvironmentOf V → V → EnvironmentSeen
environment_seen of environment = record { told = of.told environment; faults = of.faults environment }

abbrev pub in_seen : {H K V : Type 0} → SourceOf H → ClockOf K → EnvironmentOf V → H → K → V → InSeen
in_seen of_shelf of_clock of_environment shelf clock environment = record {
  shelf = shelf_seen of_shelf shelf;
  clock = clock_seen of_clock clock;
  environment = environment_seen of_environment environment;
}

abbrev pub out_seen : {X E : Type 0} → ExchangeOf X → SinkOf E → X → E → OutSeen
out_seen of_exchange of_errors exchange errors = record { exchange = of_exchange.seen exchange; errors = output_seen of_errors errors }

abbrev pub zone_seen : {H K V X E : Type 0} → SourceOf H → ClockOf K → EnvironmentOf V → ExchangeOf X → SinkOf E → H → K → V → X → E → Seen
zone_seen of_shelf of_clock of_environment of_exchange of_errors shelf clock environment exchange errors = record {
  read = in_seen of_shelf of_clock of_environment shelf clock environment;
  written = out_seen of_exchange of_errors exchange errors;
}
