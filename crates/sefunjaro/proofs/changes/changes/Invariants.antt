use Rattle.std.proofs.Common.{◌≤◌}
use Rattle.sefunjaro.proofs.ChangeLemmas.{AreMet}
use Rattle.sefunjaro.proofs.changes.changes.Given as goal

-- as many changes of the window as were met stand in the room, as far as they fit, and the others are left
abbrev pub invariant-loop-place : goal.invariant-loop-place
invariant-loop-place g l = record {
  begun : l.initial.place ≤ l.place;
  met : AreMet (g.S.SpanTable.seen l.set) l.from l.to (g.S.SpanTable.seen l.set).others l.fn.room l.place l.count l.room;
}
