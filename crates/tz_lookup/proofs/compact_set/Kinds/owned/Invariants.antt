use Rattle.std.proofs.Common.{◌≡◌, map, take}
use Rattle.tz_lookup.specs.KindShown.{kind_shown}
use Rattle.tz_lookup.proofs.compact_set.Kinds.owned.Given as goal

-- the kinds so far
abbrev pub invariant-loop-kind : goal.invariant-loop-kind
invariant-loop-kind l = l.kinds ≡ map kind_shown (take l.kind-index l.kind-items)
