use Rattle.std.proofs.Common.{ap, ◌∙◌, sym, length}
use Rattle.zone_source.proofs.LineListLemmas.{length_lines}
use Rattle.zone_source.proofs.lines.LineList.len.Goals as goal

pub returns : goal.returns
returns c =
    ap length c.as_slice.ensures.value
    ∙ sym (length_lines 0 c.self.inside.ends.items c.self.inside.bytes.items)
    ∙ ap length c.self.view_is
