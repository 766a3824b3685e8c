use Rattle.std.proofs.Common.{◌∙◌, ap, sym}
use Rattle.zone_source.specs.Zones.{source_value}
use Rattle.zone_plain_lines.proofs.ReadingLemmas.{nothing_in}
use Rattle.zone_plain_lines.proofs.said.line_or_blank.Goals as goal

pub returns-then-is_empty : goal.returns-then-is_empty
returns-then-is_empty c =
    c.requires ∙ ap source_value (sym (nothing_in c.args.bytes.now (sym c.is_empty.ensures ∙ c.if-is_empty.true)))
