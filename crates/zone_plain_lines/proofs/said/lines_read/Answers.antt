use Rattle.std.proofs.Common.{◌<◌, map, length, ap, ◌∙◌, arith}
use Rattle.zone_source.specs.Zones.{source_value}
use Rattle.zone_table.specs.Values.{line_value}
use Rattle.zone_plain_lines.proofs.ReadingLemmas.{one_read}
use Rattle.zone_plain_lines.proofs.said.lines_read.Goals as goal

pub loop-place-preserved : goal.loop-place-preserved
loop-place-preserved c =
    let inside : c.loop-place.place < length c.args.lines.now = omega (arith, c.loop-place-test.true, c.len-place-end.ensures) in
    ap (map line_value) c.in_ok-push.ensures.items
    ∙ one_read c.args.lines.now c.loop-place.read.items c.in_ok-line.line c.loop-place.place inside c.loop-place.invariant
    (c.in_ok-line.ensures ∙ ap source_value c.line_at.ensures)
