use Rattle.std.proofs.Common.{◌≡◌, length}
use Rattle.zone_words.specs.Fronts.{Passes}
use Rattle.zone_words.proofs.fronts.pass_piece.Given as goal

abbrev pub invariant-lines : goal.invariant-lines
invariant-lines g l = let rewritten = g.R.Rewriter.rewritten l.fn.rewriter in record {
  same : g.R.Rewriter.rewritten l.rewriter ≡ rewritten;
  passes : Passes rewritten l.fn.held l.fn.piece l.held l.rest l.fn.output.items l.output.items;
}

abbrev pub decreases-lines : goal.decreases-lines
decreases-lines g l = length l.rest
