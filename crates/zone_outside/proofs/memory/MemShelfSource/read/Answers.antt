use Rattle.zone_outside.{proofs.Loops.{consumed_at}, specs.Memory.{text_chosen}}
use Rattle.zone_outside.proofs.memory.MemShelfSource.read.Goals as goal

pub returns-clause-bytes : goal.returns-clause-bytes
returns-clause-bytes c =
    let front = rw (c.bytes_from.ensures, c.chosen_text-text.ensures, c.deref.ensures.value) at c.copy_front-count.ensures.bytes in
    rw (← c.self.view_is) (consumed_at (text_chosen c.self.inside.files.items c.self.inside.chosen) _ c.self.inside.at
    c.copy_front-count.result front)
