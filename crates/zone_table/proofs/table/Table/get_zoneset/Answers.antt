use Rattle.std.proofs.Common.{refl}
use Rattle.zone_table.proofs.BoundedLemmas.{bounded_at}
use Rattle.zone_table.proofs.table.Table.get_zoneset.Goals as goal

pub returns-in-Some-clause-bounded : goal.returns-in-Some-clause-bounded
returns-in-Some-clause-bounded c =
    rw c.as_slice.ensures (bounded_at c.args.self.now c.args.zone_name.now _ c.in-Some.lines.now c.in-Some.ensures refl)

pub returns-clause-bounded : goal.returns-clause-bounded
returns-clause-bounded c = rw c.as_slice-2.ensures (bounded_at c.args.self.now _ _ c.in_ok-lines.lines.now c.in_ok-lines.ensures refl)
