use Rattle.std.proofs.Common.{arith, ◌/◌, ◌%◌, ap, get_or}
use Rattle.civil_base.proofs.ReadLemmas.{nine-listed}
use Rattle.civil_base.proofs.read.nine.Goals as goal

pub returns-clause-value : goal.returns-clause-value
returns-clause-value c = λ n small text.
    let e0 = ap (λ l. get_or l 0 0) text in
    let e1 = ap (λ l. get_or l 1 0) text in
    let e2 = ap (λ l. get_or l 2 0) text in
    let e3 = ap (λ l. get_or l 3 0) text in
    let e4 = ap (λ l. get_or l 4 0) text in
    let e5 = ap (λ l. get_or l 5 0) text in
    let e6 = ap (λ l. get_or l 6 0) text in
    let e7 = ap (λ l. get_or l 7 0) text in
    let e8 = ap (λ l. get_or l 8 0) text in
    let front = c.four-front.ensures.value (n / 100000) (omega arith) (omega arith) (omega arith) (omega arith) (omega arith) in
    let back = c.four-back.ensures.value (n / 10 % 10000) (omega arith) (omega arith) (omega arith) (omega arith) (omega arith) in
    let last = c.digit_value.ensures.value (n % 10) (omega arith) (omega arith) in
    let whole = c.nine_of.ensures.value (omega arith) (omega arith) (omega arith) in
    omega arith

pub returns-clause-spelled : goal.returns-clause-spelled
returns-clause-spelled c = λ small.
    let parts = c.nine_of.ensures.parts small in
    let whole = c.nine_of.ensures.value parts.0 parts.1 parts.2 in
    let front = c.four-front.ensures.spelled parts.0 in
    let back = c.four-back.ensures.spelled parts.1 in
    let last = c.digit_value.ensures.spelled parts.2 in
    nine-listed c.args.digits.now c.nine_of.result c.requires (omega (arith, front.0)) (omega (arith, front.1)) (omega (arith, front.2))
    (omega (arith, front.3)) (omega (arith, back.0)) (omega (arith, back.1)) (omega (arith, back.2)) (omega (arith, back.3)) (omega arith)
