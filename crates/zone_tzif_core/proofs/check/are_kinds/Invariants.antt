use Rattle.std.proofs.Common.{◌≡◌, ◌*◌, ◌-◌, drop, is_some}
use Rattle.zone_tzif_core.specs.Reading.{kinds_in}
use Rattle.zone_tzif_core.proofs.check.are_kinds.Given as goal

abbrev pub invariant-loop-i : goal.invariant-loop-i
invariant-loop-i l = is_some (kinds_in l.names (l.count - l.i) (drop (6 * l.i) l.records)) ≡ is_some (kinds_in l.names l.count l.records)
