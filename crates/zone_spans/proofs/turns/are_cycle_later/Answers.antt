use Rattle.std.proofs.Common.{◌-◌, ◌&&◌, length, reverse, sym, ◌∙◌, subst, arith}
use Rattle.zone_spans.{specs.Bounds.{IsSmallEntry}, proofs.BoundLemmas.{small_entries}, proofs.GoesOnLemmas.{kept_short, later_is, later_short}}
use Rattle.zone_spans.proofs.turns.are_cycle_later.Goals as goal

pub returns-in_default : goal.returns-in_default
returns-in_default c = sym (later_short c.args.later.now (reverse c.args.kept.now) c.in_default.len_below)

pub returns-in_default-kept : goal.returns-in_default-kept
returns-in_default-kept c = sym (kept_short (reverse c.args.later.now) c.args.kept.now c.in_default-kept.len_below)

pub is_cycle_later-requires : goal.is_cycle_later-requires
is_cycle_later-requires c =
    let kept = c.args.kept.now in
    subst IsSmallEntry (sym c.k-item.is) (small_entries kept c.requires (length kept - 1) c.k-item.result (omega arith))

pub is_cycle_later-requires-2 : goal.is_cycle_later-requires-2
is_cycle_later-requires-2 c =
    let kept = c.args.kept.now in
    subst IsSmallEntry (sym c.j-item.is) (small_entries kept c.requires (length kept - 2) c.j-item.result (omega arith))

pub returns : goal.returns
returns c =
    let there = c.args.later.now in
    let here = c.args.kept.now in
    (λ i. c.is_cycle_later.ensures i && c.is_cycle_later-2.ensures i)
    ∙ later_is there here c.m-item.result c.l-item.result c.j-item.result c.k-item.result c.in-len2-up.len_at_least c.in-len2-up-kept.len_at_least
    c.m-item.is c.l-item.is c.j-item.is c.k-item.is
