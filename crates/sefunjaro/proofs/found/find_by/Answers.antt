use Rattle.std.proofs.Common.{IfSome, subst}
use Rattle.sefunjaro.specs.FoundSteps.{IsOnly}
use Rattle.sefunjaro.specs.Zones.{total_in}
use Rattle.sefunjaro.proofs.found.find_by.Goals as goal

pub returns-in-Some : goal.returns-in-Some
returns-in-Some c =
    let only = subst (λ o. IfSome o (IsOnly c.args.known.now c.args.local.now)) c.in-Some.is c.only_instant.ensures in
    only (total_in c.args.zone.now) c.args.fold c.args.gap c.is_steady.ensures c.requires
