use Rattle.zone_words.proofs.ReplyLemmas.{fed_on, feeds}
use Rattle.zone_words.proofs.requests.LineAnswersFilter.feed.Goals as goal

pub returns-clause-fed : goal.returns-clause-fed
returns-clause-fed g c = fed_on c.args.self.now.held c.answer_piece.new.held c.args.piece.now c.answer_piece.result c.answer_piece.ensures.held

pub returns-clause-output : goal.returns-clause-output
returns-clause-output g c =
    feeds (g.R.Responder.replies c.args.self.now.responder) c.args.self.now.held c.args.piece.now c.args.output.now.items c.answer_piece.new.output.items
    c.answer_piece.result c.answer_piece.ensures.answers c.answer_piece.ensures.fault
