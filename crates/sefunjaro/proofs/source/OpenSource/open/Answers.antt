use Rattle.std.proofs.Common.{◌≤◌, length, sym, subst, rules, arith}
use Rattle.sefunjaro.proofs.AnySourceLemmas.{form_refused, plain_short}
use Rattle.sefunjaro.proofs.source.OpenSource.open.Goals as goal

pub of_plain-requires : goal.of_plain-requires
of_plain-requires c =
    subst (λ form. length form ≤ 16777216) (sym c.as_slice.ensures.value)
    (plain_short c.args.text.now c.in-Ok-plain.form.items c.in-Ok-plain.ensures.ok)

pub returns-in-Ok-plain-clause-err : goal.returns-in-Ok-plain-clause-err
returns-in-Ok-plain-clause-err c =
    let written = c.in-Ok-plain.ensures.ok in
    form_refused c.args.text.now c.in-Ok-plain.form.items c.of_plain.result (omega (arith, c.if-text-gt-LIMIT.false)) written
    (plain_short c.args.text.now c.in-Ok-plain.form.items written)
    (search rules)
