use Rattle.std.proofs.Common.{map, option_map, ◌-ℤ◌, ◌<ℤ◌}
use borrow.Author.Differences.{up}
use Rattle.tz_lookup.specs.Sets.{shift_of}
use Rattle.zone_tzif_core.specs.ZoneFiles.{zone_seen}
use Rattle.tz_tzif.specs.{FooterShown.{footer_shown}, InForce.{kind_in}, Opened.{span_of}, Walks.{AreBefore, AreShifts, Tells}}
use Rattle.tz_tzif.proofs.spans.entries_over.Given as goal

-- the entries so far tell what is in force up to here
abbrev pub invariant-changes : goal.invariant-changes
invariant-changes l = record {
  later : l.from <ℤ l.second;
  tells : Tells (kind_in (zone_seen l.zone) (option_map footer_shown l.footer)) l.from l.second
      (span_of (kind_in (zone_seen l.zone) (option_map footer_shown l.footer) l.from)) l.entries;
  before : AreBefore (map shift_of l.entries) l.second;
  shifts : AreShifts (map shift_of l.entries);
}

abbrev pub decreases-changes : goal.decreases-changes
decreases-changes l = up (l.end -ℤ l.second)
