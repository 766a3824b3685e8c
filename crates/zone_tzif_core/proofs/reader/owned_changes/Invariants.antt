use Rattle.std.proofs.Common.{◌≡◌, take}
use Rattle.zone_tzif_core.specs.{Shown.{shifts_shown}, ZoneFiles.{changes_with, kinds_kept}}
use Rattle.zone_tzif_core.proofs.reader.owned_changes.Given as goal

abbrev pub invariant-loop-place : goal.invariant-loop-place
invariant-loop-place l = shifts_shown l.changes.items ≡ changes_with (kinds_kept l.file) (take l.place l.file.changes.items)
