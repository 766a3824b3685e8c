use Rattle.std.{proofs.Common.{◌≡◌, drop, map, is_none}, specs.List.{list_any}}
use Rattle.zone_words.specs.TimesShown.{asked}
use Rattle.zone_command.proofs.times.has_now.Given as goal

abbrev pub invariant-loop-instant : goal.invariant-loop-instant
invariant-loop-instant l = list_any is_none (map asked (drop l.instant-index l.instants)) ≡ list_any is_none (map asked l.instants)
