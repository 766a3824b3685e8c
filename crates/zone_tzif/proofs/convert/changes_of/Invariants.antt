use Rattle.std.proofs.Common.{◌≡◌, ◌++◌, drop, map}
use Rattle.zone_tzif_core.specs.Shown.{shifts_shown}
use Rattle.zone_tzif.specs.Values.{change_by}
use Rattle.zone_tzif.proofs.convert.changes_of.Given as goal

-- the changes so far and those that are left make the whole
abbrev pub invariant-loop-place : goal.invariant-loop-place
invariant-loop-place g l =
    shifts_shown l.changes.items ++ drop l.place (map (change_by l.saves) (g.S.SpanTable.seen l.set).others) ≡ map (change_by l.saves) (g.S.SpanTable.seen l.set).others
