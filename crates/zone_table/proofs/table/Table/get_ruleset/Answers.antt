use Rattle.std.proofs.Common.{refl}
use Rattle.zone_table.proofs.BoundedLemmas.{bounded_rules_at}
use Rattle.zone_table.proofs.table.Table.get_ruleset.Goals as goal

pub returns-clause-bounded : goal.returns-clause-bounded
returns-clause-bounded c =
    rw c.as_slice.ensures (bounded_rules_at c.args.self.now c.args.name.now _ c.in_ok-rules.rules.now c.in_ok-rules.ensures refl)
