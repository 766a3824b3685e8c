use Rattle.std.proofs.Common.{subst, sym}
use Rattle.basics.specs.{InOrderLaws.{RisesStrictly, rises-keys}, Keyed.{text_cmp}}
use Rattle.zone_tree.{specs.Told.{IsWhy}, proofs.TreeLemmas.{one_step, first_step, all_steps}}
use Rattle.zone_tree.proofs.whole.put_names.Goals as goal

pub put_name-requires-clause-zones_rise : goal.put_name-requires-clause-zones_rise
put_name-requires-clause-zones_rise g c = subst (RisesStrictly text_cmp) (sym c.requires.zones) (rises-keys c.args.table.now.zonesets)

pub put_name-requires-clause-links_rise : goal.put_name-requires-clause-links_rise
put_name-requires-clause-links_rise g c = subst (RisesStrictly text_cmp) (sym c.requires.links) (rises-keys c.args.table.now.links)

pub loop-name-preserved : goal.loop-name-preserved
loop-name-preserved g c =
    one_step _ _ c.args.ordered.now c.loop-name.name-index _ _ _ _ c.loop-name-test.true c.loop-name.invariant c.in-Ok.ensures.ok

pub returns-in-Err-Refused-clause-err : goal.returns-in-Err-Refused-clause-err
returns-in-Err-Refused-clause-err g c =
    let first =
    first_step _ _ c.args.ordered.now c.loop-name.name-index _ _ _ _ c.in-Err-Refused.why c.loop-name-test.true c.loop-name.invariant
    (subst (IsWhy _) c.in-Err-Refused.field-0-is c.in-Err-Refused.ensures.err) c.in_ok-new-in-Err-Refused.ensures in
    let same = c.in-Err-Refused.why-is in cc

pub returns-clause-ok : goal.returns-clause-ok
returns-clause-ok g c = all_steps _ _ c.args.ordered.now c.loop-name.name-index _ _ c.loop-name-test.false c.loop-name.invariant
