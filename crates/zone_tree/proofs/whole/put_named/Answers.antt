use Rattle.std.proofs.Common.{subst}
use Rattle.zone_tree.{specs.Told.{IsWhy}, proofs.TreeLemmas.{one_first, refused_first}}
use Rattle.zone_tree.proofs.whole.put_named.Goals as goal

pub returns-in-Ok-clause-ok : goal.returns-in-Ok-clause-ok
returns-in-Ok-clause-ok c = one_first c.args.release.now _ _ c.in-Ok.ensures.ok

pub returns-in_ok-new-in-Err-Refused-clause-err : goal.returns-in_ok-new-in-Err-Refused-clause-err
returns-in_ok-new-in-Err-Refused-clause-err c =
    refused_first c.args.release.now _ _ (subst (IsWhy _) c.in-Err-Refused.field-0-is c.in-Err-Refused.ensures.err) c.in_ok-new-in-Err-Refused.ensures
