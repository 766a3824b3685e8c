use Rattle.std.proofs.{Common.{ap, arith, length, sym}, lemmas.List.Sums.{position_or_len_is}}
use Rattle.zone_answers.specs.Requests.{is_space}
use Rattle.zone_answers.proofs.request.near_space_in.Goals as goal

pub returns-then-text-i-eq32-clause-place : goal.returns-then-text-i-eq32-clause-place
returns-then-text-i-eq32-clause-place c =
    sym (position_or_len_is is_space c.args.text.now c.loop-i.i 0 (omega arith) c.loop-i.invariant (λ _. ap is_space c.if-text-i-eq32.true))

pub returns-clause-place : goal.returns-clause-place
returns-clause-place c =
    sym (position_or_len_is is_space c.args.text.now (length c.args.text.now) 0 (omega arith) (λ k below. c.loop-i.invariant k (omega arith))
    (λ below. absurd (omega (arith, below))))
