use Rattle.std.{proofs.Common.{◌∙◌, sym, ap}, specs.Prelude.{flat_map}, proofs.lemmas.List.{take_all}, proofs.lemmas.List.Folds.{flat_map-map}}
use Rattle.zone_plain_lines.specs.Marks.{behind}
use Rattle.zone_plain_lines.proofs.renamed.tails.Goals as goal

pub returns : goal.returns
returns c =
    c.loop-name.invariant ∙ ap (flat_map (λ name. behind c.args.byte name.now)) (take_all c.loop-name.name-index c.args.names.now c.loop-name-test.false)
    ∙ sym (flat_map-map (behind c.args.byte) (λ name. name.now) c.args.names.now)
