use Rattle.std.{proofs.Common.{◌∙◌, sym, ap, map}, specs.Prelude.{flat_map}, proofs.lemmas.List.{take_all}, proofs.lemmas.List.Folds.{flat_map-map}}
use Rattle.zone_table.specs.Values.{line_value}
use Rattle.zone_plain_lines.{specs.{Marks.{behind}, Renamed.{ruleset_of}}, proofs.MarkLemmas.{mark_is}}
use Rattle.zone_plain_lines.proofs.renamed.mark_of.Goals as goal

pub returns : goal.returns
returns c =
    mark_is (map line_value c.args.lines.now) _ _
    (c.loop-line.invariant
    ∙ ap (flat_map (λ line. behind 95 (ruleset_of (line_value line)))) (take_all c.loop-line.line-index c.args.lines.now c.loop-line-test.false)
    ∙ sym (flat_map-map (λ v. behind 95 (ruleset_of v)) line_value c.args.lines.now)
    ∙ sym (flat_map-map (behind 95) ruleset_of (map line_value c.args.lines.now)))
    c.in_ok-mark.ensures
