use Rattle.std.proofs.Common.{sym, ◌∙◌, ap, subst, Some}
use Rattle.zone_plain.{specs.Settled.{link_after}, proofs.LinkLemmas.{none_before, same_before}}
use Rattle.zone_plain.proofs.links.link_place.Goals as goal
use Rattle.zone_plain_lines.specs.Told.{IsRefused}

pub returns-in-Some-true-clause-ok : goal.returns-in-Some-true-clause-ok
returns-in-Some-true-clause-ok c values before here =
    same_before _ _ _ values before _ _ (sym c.in-Some-true.ensures ∙ ap Some c.in-Some-true.field-0-test) here

pub returns-in-Ok-clause-ok : goal.returns-in-Ok-clause-ok
returns-in-Ok-clause-ok c values before here =
    let none = none_before _ _ _ values before c.args.existing.now c.args.new.now (sym c.in-None.ensures) here in
    let found = c.in-Ok.ensures.ok values before here in
    (ap (λ o. link_after values o c.args.existing.now c.args.new.now) none ∙ found.0, found.1)

pub returns-in-Err-clause-err : goal.returns-in-Err-clause-err
returns-in-Err-clause-err c values before here =
    let none = none_before _ _ _ values before c.args.existing.now c.args.new.now (sym c.in-None.ensures) here in
    subst (λ o. IsRefused (link_after values o c.args.existing.now c.args.new.now) c.in-Err.refused) (sym none)
    (c.in-Err.ensures.err values before here)
