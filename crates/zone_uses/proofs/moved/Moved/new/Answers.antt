use Rattle.std.proofs.Common.{rules}
use Rattle.zone_uses.specs.MoveLaws.{around_in_range, two_around}
use Rattle.zone_uses.proofs.moved.Moved.new.Goals as goal

pub invariant_of-result-clause-in_range : goal.invariant_of-result-clause-in_range
invariant_of-result-clause-in_range c = around_in_range _ _ _ (search rules) (search rules)

pub invariant_of-result-clause-two : goal.invariant_of-result-clause-two
invariant_of-result-clause-two c = two_around _ _ _ (search rules) (search rules)
