use Rattle.zone_plain.proofs.LineLemmas.{blank_added}
use Rattle.zone_plain.proofs.whole.add_line.Goals as goal

pub returns-in_ok-push-in-Space : goal.returns-in_ok-push-in-Space
returns-in_ok-push-in-Space c = blank_added _ _ c.args.mark.now c.args.is_blank_said c.args.meant.now c.in-Space.is c.requires c.in_ok-push-in-Space.ensures.ok
