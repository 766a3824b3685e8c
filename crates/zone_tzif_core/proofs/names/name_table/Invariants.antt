use Rattle.std.proofs.Common.{◌≡◌, length}
use Rattle.zone_tzif_core.specs.Names.{AreNamesTo}
use Rattle.zone_tzif_core.proofs.names.name_table.Given as goal

abbrev pub invariant-loop-place : goal.invariant-loop-place
invariant-loop-place l = (AreNamesTo l.place l.names l.table) × (length l.table ≡ 256)
