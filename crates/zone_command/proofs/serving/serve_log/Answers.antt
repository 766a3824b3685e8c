use Rattle.std.{proofs.Common.{ℕ, ℤ, List, subst}, specs.Prelude.{Option}}
use Rattle.zone_words.specs.{Fronts.{fronts_rewritten}, Logs.{log_front}, Runs.{Ends}}
use Rattle.zone_command.specs.LogTexts.{log_text}
use Rattle.zone_command.proofs.serving.serve_log.Goals as goal

pub returns : goal.returns
returns g c =
    let P : ℕ → (ℤ → Option (List ℕ)) → Type 0 = λ field shown. Ends (fronts_rewritten (log_front field shown))
    (g.X.Exchange.seen c.args.exchange.now) (g.X.Exchange.seen c.run_log.new.exchange) c.run_log.result in
    subst (λ field. P field (log_text c.args.form (g.Z.ReplyZone.view c.args.zone.now))) c.field_of.ensures.field
    (subst (P c.field_of.result) c.new-texts.ensures c.run_log.ensures)
