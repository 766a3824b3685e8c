use Rattle.std.proofs.{Common.{Ok, Err, OnErr, arith}, lemmas.List.{take_rest}}
use Rattle.zone_outside.{specs.Exchanges.{WrotePart}, proofs.ExchangeLemmas.{wrote_next, wrote_part}}
use Rattle.zone_outside.proofs.exchange.send_all.Goals as goal

pub returns-in_err-at-clause-err : goal.returns-in_err-at-clause-err
returns-in_err-at-clause-err g c =
    let sends = c.in_err-at.ensures.sends in
    let part : WrotePart (g.E.Exchange.seen c.args.exchange.now) (g.E.Exchange.seen c.write.new.self) c.args.bytes.now =
    wrote_part c.args.bytes.now c.sending.at c.sending.invariant.wrote sends.done sends.left sends.reads in
    elim c.from_residual.result as (λ r. OnErr r (WrotePart (g.E.Exchange.seen c.args.exchange.now) (g.E.Exchange.seen c.write.new.self) c.args.bytes.now))
    [ Ok x ↦ tt | Err e ↦ part ]

pub sending-preserved : goal.sending-preserved
sending-preserved g c = let sends = c.in_ok-at.ensures.sends in record {
  within = omega (arith, c.in_ok-at.ensures.bound);
  wrote = wrote_next c.args.bytes.now _ c.sending.at c.in_ok-at.field-0 (take_rest c.args.bytes.now c.sending.at) c.sending.invariant.wrote sends.done sends.left sends.reads;
  faults = omega (arith, sends.cause.later);
}
