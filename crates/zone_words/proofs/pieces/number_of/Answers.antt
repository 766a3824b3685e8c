use Rattle.std.proofs.Common.{◌∙◌, ap, arith, ◌^◌, ◌+◌, drop, min}
use Rattle.zone_words.{specs.Numbers.{number_after}, proofs.NumberLemmas.{step}}
use Rattle.zone_words.proofs.pieces.number_of.Goals as goal

pub loop-digit-preserved : goal.loop-digit-preserved
loop-digit-preserved c =
    let i = c.loop-digit.digit-index in
    record {
      rest = ap (λ n. min (number_after n (drop (i + 1) c.args.digits.now)) (10 ^ 25)) c.min-number.ensures
          ∙ step c.loop-digit.number c.from.result (10 ^ 25) i c.args.digits.now (omega arith) (c.from.ensures ∙ c.saturating_sub.ensures)
          ∙ c.loop-digit.invariant.rest;
      bound = omega arith;
    }
