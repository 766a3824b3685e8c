use Rattle.std.proofs.Common.{◌-◌, length, sym, subst, arith}
use Rattle.zone_spans.{specs.Bounds.{IsSmallEntry}, proofs.BoundLemmas.{small_entries}}
use Rattle.zone_spans.proofs.turns.is_apart.Goals as goal

pub is_no_later-requires-clause-entry : goal.is_no_later-requires-clause-entry
is_no_later-requires-clause-entry c =
    subst IsSmallEntry (sym c.first-item.is) (small_entries c.args.cycle.now c.requires.cycle 0 c.first-item.result (omega arith))

pub is_no_later-requires-clause-last : goal.is_no_later-requires-clause-last
is_no_later-requires-clause-last c =
    let kept = c.args.kept.now in
    subst IsSmallEntry (sym c.k-item.is) (small_entries kept c.requires.kept (length kept - 1) c.k-item.result (omega arith))

pub is_no_later-requires-clause-before : goal.is_no_later-requires-clause-before
is_no_later-requires-clause-before c =
    let kept = c.args.kept.now in
    subst IsSmallEntry (sym c.j-item.is) (small_entries kept c.requires.kept (length kept - 2) c.j-item.result (omega arith))
