use Rattle.zone_table.proofs.OrderLemmas.{in_order_from_sort}
use Rattle.zone_table.proofs.structure.put_in_order.Goals as goal

pub returns : goal.returns
returns c =
    let sorts = c.in_ok-sort.ensures in
    in_order_from_sort c.args.placed.now.items c.sort.new.self.items c.dedup.new.self.items
    sorts.permutation sorts.sorted c.dedup.ensures.filtered
