use Rattle.std.proofs.{Common.{arith, ◌<◌, ◌∙◌}, lemmas.Bool.Decides.{nat_tests}}
use Rattle.civil_base.proofs.ReadLemmas.{not-both, below-halves, joined-halves, told-halves}
use Rattle.civil_base.proofs.read.four.Goals as goal

pub returns-then-are_digits-clause-value : goal.returns-then-are_digits-clause-value
returns-then-are_digits-clause-value c = λ n small t h e o.
    let halves = told-halves _ _ n _ _ _ _ small c.two-front.ensures.value c.two-back.ensures.value t h e o in
    joined-halves n _ _ (c.from.ensures ∙ halves.0) (c.from-then-are_digits.ensures ∙ halves.1)

pub returns-then-are_digits-clause-spelled : goal.returns-then-are_digits-clause-spelled
returns-then-are_digits-clause-spelled c = λ small.
    let low : c.two-front.result < 100 = grind (arith, nat_tests) in
    let high : c.two-back.result < 100 = grind (arith, nat_tests) in
    let front = c.two-front.ensures.spelled low in
    let back = c.two-back.ensures.spelled high in
    (omega (arith, front.0, front.1), omega (arith, front.0, front.1), omega (arith, back.0, back.1), omega (arith, back.0, back.1))

pub returns-else-are_digits-clause-value : goal.returns-else-are_digits-clause-value
returns-else-are_digits-clause-value c = λ n small t h e o.
    let halves = told-halves _ _ n _ _ _ _ small c.two-front.ensures.value c.two-back.ensures.value t h e o in
    let below = below-halves n small in
    absurd (not-both c.two-front.result c.two-back.result 100 (rw halves.0 below.0) (rw halves.1 below.1) c.if-are_digits.false)
