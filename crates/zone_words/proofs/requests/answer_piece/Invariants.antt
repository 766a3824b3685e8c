use Rattle.std.proofs.Common.{◌≡◌, ◌||◌, ◌++◌, length}
use Rattle.zone_words.specs.{Lines.{lines_behind, open_behind}, Replies.{answers, any_fails}}
use Rattle.zone_words.proofs.requests.answer_piece.Given as goal

abbrev pub invariant-lines : goal.invariant-lines
invariant-lines g l = let replies = g.R.Responder.replies l.fn.responder in record {
  same : g.R.Responder.replies l.responder ≡ replies;
  answers : l.output.items ++ answers replies (lines_behind l.held l.rest) ≡ l.fn.output.items ++ answers replies (lines_behind l.fn.held l.fn.piece);
  faults : (l.fault || any_fails replies (lines_behind l.held l.rest)) ≡ any_fails replies (lines_behind l.fn.held l.fn.piece);
  tail : open_behind l.held l.rest ≡ open_behind l.fn.held l.fn.piece;
}

abbrev pub decreases-lines : goal.decreases-lines
decreases-lines g l = length l.rest
