-- What the code's failures show.
use Rattle.std.specs.Prelude.{string_bytes}
use Rattle.zone_words.specs.Told.{fault_shown}
use Rattle.zone_command.specs.{Failures.{Failure, refuses, bad_words, clock_fails, environment_fails, file_fails, file_long, no_memory}, declared.failure.Failure.{Failure as Shown}}
use Rattle.zone_command.specs.declared.failure.Failure.TheVariants.{Refuses, BadWords, Clock, Environment, File, Long, NoMemory}

abbrev pub failure_shown : Shown → Failure
failure_shown (Refuses line) = refuses line.items
failure_shown (BadWords fault) = bad_words (fault_shown fault)
failure_shown Clock = clock_fails
failure_shown Environment = environment_fails
failure_shown (File file) = file_fails (string_bytes file)
failure_shown (Long file) = file_long (string_bytes file)
failure_shown NoMemory = no_memory
