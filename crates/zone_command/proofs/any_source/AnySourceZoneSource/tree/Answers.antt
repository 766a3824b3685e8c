use Rattle.zone_command.proofs.any_source.AnySourceZoneSource.tree.Goals as goal

pub returns-then-to_2099 : goal.returns-then-to_2099
returns-then-to_2099 c = rw c.if-to_2099.true c.tree_to_2099.ensures

pub returns-else-to_2099 : goal.returns-else-to_2099
returns-else-to_2099 c = rw c.if-to_2099.false c.tree_for_ever.ensures
