use Rattle.std.proofs.Common.{sym, ap, ◌∙◌}
use Rattle.zone_outside.{specs.Exchanges.{sent}, specs.Marks.{ExchangeState}, proofs.MarkLemmas.{sent_all}}
use Rattle.zone_outside.proofs.exchange_memory.MemExchange.written.Goals as goal

pub returns : goal.returns
returns c = c.deref.ensures.value ∙ sym (sent_all c.self.inside.marks.items c.self.inside.input.items c.self.inside.output.items c.self.invariant.writes)
    ∙ ap (λ (s : ExchangeState). sent s.done) c.self.view_is
