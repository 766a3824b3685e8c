use Rattle.zone_table.specs.Values.{line_value}
use Rattle.zone_source.proofs.JoinLemmas.{taken}
use Rattle.zone_source.proofs.table.join_line.Goals as goal

pub returns-in-Ok-add_line-clause-ok : goal.returns-in-Ok-add_line-clause-ok
returns-in-Ok-add_line-clause-ok c =
    let text = c.in-Some.ensures.text in
    taken _ _ c.args.number c.args.line.now (line_value c.in-Ok.read) text.1
    (rw text.0 at c.in-Ok.ensures.value) c.in-Ok-add_line.ensures.ok c.in-Ok.ensures.bounded
