use Rattle.zone_words.proofs.ReplyLemmas.{closes}
use Rattle.zone_words.proofs.requests.LineAnswersFilter.close.Goals as goal

pub returns-clause-output : goal.returns-clause-output
returns-clause-output g c =
    closes (g.R.Responder.replies c.args.self.now.responder) c.args.self.now.held c.args.output.now.items c.answer_last.new.output.items
    c.answer_last.result c.answer_last.ensures.answers c.answer_last.ensures.fault
