use Rattle.std.proofs.{Common.{List, sym, ◌∙◌, refl, subst}, lemmas.Result.{IfOk-weaker, IfErr-weaker}}
use Rattle.zone_plain_lines.specs.Told.{IsRefused}
use Rattle.zone_table.specs.Values.{LineValue}
use Rattle.zone_plain.{specs.Settled.{settled_link}, specs.Stands.{IsAt}, proofs.LinkLemmas.{space_stays, rule_stays, continuation_lacks, continuation_stays, plain_more, link_is}}
use Rattle.zone_plain.proofs.links.settle_line.Goals as goal

pub returns-in-Space-clause-ok : goal.returns-in-Space-clause-ok
returns-in-Space-clause-ok c values before here =
    rw c.in-Space.is (space_stays values before, plain_more _ _ _ values before _ refl (λ _. refl) here)

pub returns-in-Rule-clause-ok : goal.returns-in-Rule-clause-ok
returns-in-Rule-clause-ok c values before here =
    rw c.in-Rule.is (rule_stays values before _, plain_more _ _ _ values before _ refl (λ _. refl) here)

pub returns-then-lacks_rules-clause-err : goal.returns-then-lacks_rules-clause-err
returns-then-lacks_rules-clause-err c values before here =
    rw c.in-Continuation.is (continuation_lacks values before _ (sym (c.lacks_rules.ensures values here.declared) ∙ c.if-lacks_rules.true))

pub returns-else-lacks_rules-clause-ok : goal.returns-else-lacks_rules-clause-ok
returns-else-lacks_rules-clause-ok c values before here =
    rw c.in-Continuation.is (
      continuation_stays values before _ (sym (c.lacks_rules.ensures values here.declared) ∙ c.if-lacks_rules.false),
      plain_more _ _ _ values before _ refl (λ _. refl) here,
    )

pub returns-in-Ok-clause-ok : goal.returns-in-Ok-clause-ok
returns-in-Ok-clause-ok c values before here =
    let found = c.in-Ok.ensures.ok c.args.limit values before here in
    rw c.in-Zone.is found

pub returns-in-Err-clause-err : goal.returns-in-Err-clause-err
returns-in-Err-clause-err c values before here = rw c.in-Zone.is (c.in-Err.ensures.err c.args.limit values before here)

pub returns-in-Link-clause-ok : goal.returns-in-Link-clause-ok
returns-in-Link-clause-ok c =
    let existing = c.in-Link.link.existing.now in
    let new = c.in-Link.link.new.now in
    IfOk-weaker c.settle_link.result _ _ (λ _ is values before here.
    let found = is values before here in
    rw c.in-Link.is (link_is values before existing new ∙ found.0, found.1)) c.settle_link.ensures.ok

pub returns-in-Link-clause-err : goal.returns-in-Link-clause-err
returns-in-Link-clause-err c =
    let existing = c.in-Link.link.existing.now in
    let new = c.in-Link.link.new.now in
    IfErr-weaker c.settle_link.result
    (λ refused. (values before : List LineValue) → IsAt c.args.declared.now c.args.seen.now c.args.limit values before → IsRefused (settled_link values before existing new) refused)
    _ (λ refused is values before here.
    rw c.in-Link.is (subst (λ f. IsRefused f refused) (sym (link_is values before existing new)) (is values before here))) c.settle_link.ensures.err
