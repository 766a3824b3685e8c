use Rattle.std.{proofs.Common.{sym, ap, ◌∙◌}, proofs.lemmas.Result.{IfOk-weaker}, specs.FinMap.{insert}}
use Rattle.zone_plain.proofs.NameLemmas.{link_known, link_added}
use Rattle.zone_plain.proofs.links.add_target.Goals as goal

pub returns-then-contains_key : goal.returns-then-contains_key
returns-then-contains_key c = link_known _ _ _ (sym c.contains_key.ensures ∙ c.if-contains_key.true)

pub returns : goal.returns
returns c =
    IfOk-weaker c.insert.result _ _ (λ _ added. link_added _ _ _ _ (sym c.contains_key.ensures ∙ c.if-contains_key.false)
    (added ∙ ap (insert c.args.targets.now c.args.new.now) c.in_ok-copy.ensures)) c.insert.ensures.ok
