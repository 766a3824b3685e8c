use Rattle.std.proofs.Common.{Some, ap, ◌∙◌}
use Rattle.tz_ever.proofs.OpenLemmas.{ending_of, going_of, told_as}
use Rattle.tz_ever.proofs.open.test_going.Goals as goal

pub returns-in-Ok-Some-true-clause-ok : goal.returns-in-Ok-Some-true-clause-ok
returns-in-Ok-Some-true-clause-ok c =
    let here = c.in-Ok-Some-true in
    going_of c.args.table.now c.args.name.now c.requires.today
    (told_as c.args.table.now c.args.name.now _ _ (here.field-0-is ∙ ap (λ b. Some b) here.field-0-0-test) here.ensures.told) here.ensures.bounded

pub ending-requires-clause-ends : goal.ending-requires-clause-ends
ending-requires-clause-ends c =
    let here = c.in-Ok-Some-false in
    ending_of c.args.table.now c.args.name.now c.requires.today
    (told_as c.args.table.now c.args.name.now _ _ (here.field-0-is ∙ ap (λ b. Some b) here.field-0-0-test) here.ensures.told)
