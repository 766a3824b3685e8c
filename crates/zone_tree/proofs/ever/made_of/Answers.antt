use Rattle.std.proofs.Common.{subst}
use Rattle.zone_tree.specs.EverTold.{RefusesName}
use Rattle.zone_tree.proofs.ever.made_of.Goals as goal

pub returns-in-Err-Refused-clause-content : goal.returns-in-Err-Refused-clause-content
returns-in-Err-Refused-clause-content c =
    subst (RefusesName c.args.table.now c.args.name.now) c.in-Err-Refused.field-0-is c.in-Err-Refused.ensures.err
