use Rattle.std.proofs.Common.{sym, ◌∙◌, refl}
use Rattle.zone_plain.proofs.LinkLemmas.{zone_lacks, zone_twice, zone_stays, zone_seen}
use Rattle.zone_plain.proofs.links.settle_zone.Goals as goal

pub returns-then-lacks_rules-clause-err : goal.returns-then-lacks_rules-clause-err
returns-then-lacks_rules-clause-err c limit values before here =
    zone_lacks values before _ _ (sym (c.lacks_rules.ensures values here.declared) ∙ c.if-lacks_rules.true)

pub returns-then-contains_key-clause-err : goal.returns-then-contains_key-clause-err
returns-then-contains_key-clause-err c limit values before here =
    zone_twice values before _ _ (sym (c.lacks_rules.ensures values here.declared) ∙ c.if-lacks_rules.false)
    (sym (here.seen.zones _) ∙ sym c.contains_key.ensures ∙ c.if-contains_key.true)

pub returns-clause-ok : goal.returns-clause-ok
returns-clause-ok c limit values before here = (
  zone_stays values before _ _ (sym (c.lacks_rules.ensures values here.declared) ∙ c.if-lacks_rules.false)
      (sym (here.seen.zones _) ∙ sym c.contains_key.ensures ∙ c.if-contains_key.false),
  zone_seen _ _ _ limit values before _ _ c.in_ok-insert.ensures.ok refl refl here,
)
