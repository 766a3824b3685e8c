use Rattle.zone_spans.proofs.GoesOnLemmas.{no_order, order_is}
use Rattle.zone_spans.proofs.turns.is_in_order.Goals as goal

pub returns-in_default : goal.returns-in_default
returns-in_default c = no_order c.args.start c.args.before.now c.args.cycle.now c.in_default.len_below

pub returns : goal.returns
returns c =
    order_is c.args.start c.args.before.now c.args.cycle.now c.first-item.result c.dont_fall.result c.ends_in_cycle.result c.is_before.result
    c.none_later.result c.in-len1-up.len_at_least c.first-item.is c.dont_fall.ensures c.ends_in_cycle.ensures c.is_before.ensures
    c.none_later.ensures
