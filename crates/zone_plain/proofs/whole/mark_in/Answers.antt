use Rattle.std.proofs.lemmas.Result.{IfOk-weaker}
use Rattle.zone_plain.proofs.MetLemmas.{mark_is}
use Rattle.zone_plain.proofs.whole.mark_in.Goals as goal

pub returns : goal.returns
returns c =
    IfOk-weaker c.mark_behind.result _ _ (λ _. mark_is c.args.source.now _ _ _ c.in_ok-names.ensures c.in_ok-slices.ensures) c.mark_behind.ensures
