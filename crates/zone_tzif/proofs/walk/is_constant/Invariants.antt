use Rattle.std.proofs.Common.{◌≡◌, ℤ, ◌-ℤ◌, ◌≤ℤ◌, ◌<ℤ◌}
use borrow.Author.Differences.{up}
use Rattle.tz_tzif.specs.{FooterForce.{held_at}, FooterShown.{footer_shown}}
use Rattle.zone_tzif_core.specs.Shown.{record_shown}
use Rattle.zone_tzif.proofs.walk.is_constant.Given as goal

-- the kind up to here
abbrev pub invariant-pieces : goal.invariant-pieces
invariant-pieces l = record {
  order : l.low ≤ℤ l.from;
  alike : (s : ℤ) → l.low ≤ℤ s → s <ℤ l.from → held_at (footer_shown l.footer) s ≡ record_shown l.kind;
}

abbrev pub decreases-pieces : goal.decreases-pieces
decreases-pieces l = up (l.high -ℤ l.from)
