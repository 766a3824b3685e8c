use Rattle.zone_words.{specs.{Fronts.{fronts_begin_empty, fronts_rewritten}, Logs.{log_front}}, proofs.RunLemmas.{ends_unbegun}}
use Rattle.zone_words.proofs.running.run_log.Goals as goal

pub returns-in_default : goal.returns-in_default
returns-in_default g c = let rewritten = log_front c.args.field (g.T.InstantTexts.shown c.args.texts) in
    ends_unbegun (fronts_rewritten rewritten) (g.E.Exchange.seen c.args.exchange.now) (fronts_begin_empty rewritten)
