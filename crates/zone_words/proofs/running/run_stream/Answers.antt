use Rattle.zone_words.{specs.Filters.{begins_empty, replied}, proofs.RunLemmas.{ends_unbegun}}
use Rattle.zone_words.proofs.running.run_stream.Goals as goal

pub returns-in_default : goal.returns-in_default
returns-in_default g c = let replies = g.R.Responder.replies c.args.responder in
    ends_unbegun (replied replies) (g.E.Exchange.seen c.args.exchange.now) (begins_empty replies)
