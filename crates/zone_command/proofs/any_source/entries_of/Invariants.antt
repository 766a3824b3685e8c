use Rattle.std.proofs.Common.{◌≡◌, map, take}
use Rattle.sefunjaro.specs.Sources.{table_in}
use Rattle.zone_texts.specs.SeenNames.{name_seen}
use Rattle.zone_command.specs.Views.{entry_of}
use Rattle.zone_command.proofs.any_source.entries_of.Given as goal

-- the entries of the names so far
abbrev pub invariant-loop-name : goal.invariant-loop-name
invariant-loop-name l = map name_seen l.entries.items ≡ map (entry_of (table_in l.source)) (take l.name-index l.name-items)
