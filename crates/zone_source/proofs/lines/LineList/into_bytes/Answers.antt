use Rattle.std.proofs.Common.{ap, ◌∙◌, sym}
use Rattle.zone_source.{specs.LineLists.{ended}, proofs.LineListLemmas.{ended_lines}}
use Rattle.zone_source.proofs.lines.LineList.into_bytes.Goals as goal

pub returns : goal.returns
returns c = sym (ended_lines 0 c.self.inside.ends.items c.self.inside.bytes.items c.self.invariant) ∙ ap ended c.self.view_is
