use Rattle.zone_outside.proofs.Loops.{consumed_at}
use Rattle.zone_outside.proofs.memory.MemSourceSource.read.Goals as goal

pub returns-clause-bytes : goal.returns-clause-bytes
returns-clause-bytes c =
    rw (← c.self.view_is) (consumed_at c.self.inside.bytes.items _ c.self.inside.at c.copy_front-count.result
    (rw (← c.deref.ensures.value, ← c.bytes_from.ensures) c.copy_front-count.ensures.bytes))
