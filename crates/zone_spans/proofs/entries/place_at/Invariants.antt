use Rattle.std.proofs.Common.{◌≡◌, ℕ, ◌<◌, false, get_or}
use Rattle.zone_spans.specs.{Firings.{Firing}, Listing.{is_at}}
use Rattle.zone_spans.proofs.entries.place_at.Given as goal

abbrev pub invariant-loop-i : goal.invariant-loop-i
invariant-loop-i l = (k : ℕ) (d : Firing) → k < l.i → is_at l.start (get_or l.fired k d) ≡ false
