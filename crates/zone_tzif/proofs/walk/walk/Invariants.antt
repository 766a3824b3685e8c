use Rattle.std.proofs.Common.{ℕ, ◌<◌, ◌≤◌, length}
use Rattle.tz_tzif.specs.FooterShown.{footer_shown}
use Rattle.tz_lookup.specs.Sets.{shifts_of}
use Rattle.zone_tzif.specs.Walked.{AgreesAt}
use Rattle.zone_tzif.proofs.walk.walk.Given as goal

-- the entries from here on agree
abbrev pub invariant-entries : goal.invariant-entries
invariant-entries g l = record {
  within : l.from ≤ length (shifts_of (g.S.SpanTable.seen l.set));
  later : (i : ℕ) → l.from ≤ i → i < length (shifts_of (g.S.SpanTable.seen l.set)) → AgreesAt (footer_shown l.footer) (g.S.SpanTable.seen l.set) i;
}

abbrev pub decreases-entries : goal.decreases-entries
decreases-entries g l = l.from
