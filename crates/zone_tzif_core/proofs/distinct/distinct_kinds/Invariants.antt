use Rattle.zone_tzif_core.{specs.Tzif.{is_same, added}, specs.Shown.{kind_shown, kinds_seen}, proofs.DistinctLemmas.{OnceSoFar}}
use Rattle.zone_tzif_core.proofs.distinct.distinct_kinds.Given as goal
use Rattle.std.proofs.Common.{[], length, ◌≤◌}

abbrev pub invariant-loop-shift : goal.invariant-loop-shift
invariant-loop-shift l = (OnceSoFar (λ shift. kind_shown shift.1) is_same (added is_same [] (kind_shown l.zone.first)) l.zone.rest.items l.shift-index (kinds_seen l.kinds.items)) × (length (kinds_seen l.kinds.items) ≤ 256)
