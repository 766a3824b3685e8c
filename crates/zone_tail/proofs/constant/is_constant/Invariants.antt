use Rattle.std.proofs.Common.{◌≡◌, ℤ, ◌-ℤ◌, ◌≤ℤ◌, ◌<ℤ◌}
use borrow.Author.Differences.{up}
use Rattle.zone_tail.specs.Rules.{rule_total}
use Rattle.zone_tail.proofs.constant.is_constant.Given as goal

-- the total up to here
abbrev pub invariant-pieces : goal.invariant-pieces
invariant-pieces l = record {
  order : l.low ≤ℤ l.from;
  alike : (s : ℤ) → l.low ≤ℤ s → s <ℤ l.from → rule_total l.rule s ≡ l.total;
}

abbrev pub decreases-pieces : goal.decreases-pieces
decreases-pieces l = up (l.high -ℤ l.from)
