-- Whether words ask for the instant at which they are read.
use Rattle.std.specs.{Prelude.{Bool, false, ◌||◌, is_none}, List.{list_any}}
use Rattle.zone_words.specs.Tasks.{TaskAsked, at_instants, list_changes}

abbrev pub asks_now : TaskAsked → Bool
asks_now (at_instants zone times) = list_any is_none times
asks_now (list_changes zone from to word) = is_none from || is_none to
asks_now _ = false
