use Rattle.std.proofs.Common.{◌∙◌}
use Rattle.zone_source.proofs.LineLemmas.{place_found}
use Rattle.zone_source.proofs.lines.line_end.Goals as goal

pub returns : goal.returns
returns c = c.unwrap_or.ensures ∙ place_found c.args.text.now c.memchr.result c.memchr.ensures
