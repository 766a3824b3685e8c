use Rattle.std.proofs.{Common.{refl}, lemmas.Result.{IfOk-weaker}}
use Rattle.zone_table.specs.Values.{rule_value}
use Rattle.zone_plain.proofs.NameLemmas.{nothing_more, zone_more, rule_more, link_more}
use Rattle.zone_plain.proofs.links.declare.Goals as goal

pub returns-in-Space : goal.returns-in-Space
returns-in-Space c values h = rw c.in-Space.is (nothing_more _ values _ refl refl (λ _. refl) h)

pub returns-in-Continuation : goal.returns-in-Continuation
returns-in-Continuation c values h = rw c.in-Continuation.is (nothing_more _ values _ refl refl (λ _. refl) h)

pub returns-in_ok-add_zone-in-Zone : goal.returns-in_ok-add_zone-in-Zone
returns-in_ok-add_zone-in-Zone c values h =
    rw c.in-Zone.is (zone_more _ _ values _ _ c.in_ok-add_zone-in-Zone.ensures.names c.in_ok-add_zone-in-Zone.ensures.zones refl refl h)

pub returns-in-Rule : goal.returns-in-Rule
returns-in-Rule c =
    IfOk-weaker c.insert.result _ _ (λ _ added values h.
    rw c.in-Rule.is (rule_more _ _ values (rule_value c.in-Rule.rule) refl refl refl added h)) c.insert.ensures.ok

pub returns-in-Link : goal.returns-in-Link
returns-in-Link c = IfOk-weaker c.add_target.result _ _ (λ _ added values h. rw c.in-Link.is (link_more _ _ values _ _ refl refl added refl h)) c.add_target.ensures
