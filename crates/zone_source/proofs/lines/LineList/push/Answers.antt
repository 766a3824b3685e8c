use Rattle.std.proofs.Common.{ap, ◌∙◌, length}
use Rattle.zone_source.proofs.LineListLemmas.{more_lines, more_ends, long_line}
use Rattle.zone_source.proofs.lines.LineList.push.Goals as goal

pub invariant_of-self-2 : goal.invariant_of-self-2
invariant_of-self-2 c =
    let bytes = c.self.inside.bytes.items in
    let line = c.args.line.now in
    let end = ap length (c.as_slice.ensures.value ∙ c.in_ok-add_line.ensures.ok) ∙ long_line bytes line in
    rw (c.push_end.ensures, c.reserve.ensures.items, c.in_ok-add_line.ensures.ok)
    (more_ends 0 c.self.inside.ends.items bytes line _ end c.self.invariant)

pub returns-clause-ok : goal.returns-clause-ok
returns-clause-ok c =
    let bytes = c.self.inside.bytes.items in
    let line = c.args.line.now in
    let end = ap length (c.as_slice.ensures.value ∙ c.in_ok-add_line.ensures.ok) ∙ long_line bytes line in
    rw (← c.self.view_is, c.push_end.ensures, c.reserve.ensures.items, c.in_ok-add_line.ensures.ok)
    (more_lines 0 c.self.inside.ends.items bytes line _ end c.self.invariant)
