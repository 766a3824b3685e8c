use Rattle.std.proofs.Common.{refl}
use Rattle.zone_plain.proofs.LinkLemmas.{leads_link, link_seen}
use Rattle.zone_plain.proofs.links.first_link.Goals as goal

pub returns-clause-ok : goal.returns-clause-ok
returns-clause-ok c values before here =
    let leads = c.in-Some.ensures values here.declared here.seen.known here.few in (
      leads_link _ values _ _ _ leads,
      link_seen _ _ _ _ values before _ _ refl c.in_ok-add_target.ensures
          (c.in_ok-keep.ensures values here.declared here.seen.known leads) here,
    )
