use Rattle.std.proofs.Common.{◌∙◌, ◌++◌, refl, ap}
use Rattle.zone_words.{proofs.FrontLemmas.{passes_none, passes_line, passes_all}, specs.{Fronts.{passed, passed_end}, Room.{room}}}
use Rattle.zone_words.proofs.fronts.pass_piece.Goals as goal

pub lines-init : goal.lines-init
lines-init g c = record { same = refl; passes = passes_none _ _ _ _ }

pub lines-preserved : goal.lines-preserved
lines-preserved g c =
    let f = g.R.Rewriter.rewritten c.args.rewriter.now in
    let text = c.in_ok-end_line.ensures.text ∙ ap (λ f. c.lines.output.items ++ passed_end room f c.lines.held c.in-Some.line.now) c.lines.invariant.same in
    record {
      same = c.in_ok-end_line.ensures.same ∙ c.lines.invariant.same;
      passes = passes_line f c.args.held.now c.args.piece.now c.lines.held c.end_line.new.held c.lines.rest.now c.args.output.now.items c.lines.output.items
          c.end_line.new.output.items c.in-Some.line.now c.in-Some.after.now c.lines.invariant.passes c.in-Some.ensures c.in_ok-end_line.ensures.held text;
    }

pub returns-clause-passes : goal.returns-clause-passes
returns-clause-passes g c =
    let f = g.R.Rewriter.rewritten c.args.rewriter.now in
    let text = c.in_ok-grow.ensures.text ∙ ap (λ f. c.lines.output.items ++ passed room f c.lines.held c.lines.rest.now) c.lines.invariant.same in
    passes_all f c.args.held.now c.args.piece.now c.lines.held c.grow.new.held c.lines.rest.now c.args.output.now.items c.lines.output.items
    c.grow.new.output.items c.lines.invariant.passes c.in_default.ensures c.in_ok-grow.ensures.held text
