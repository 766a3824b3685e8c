use Rattle.std.proofs.Common.{◌≡◌, ◌+◌, length}
use Rattle.zone_spans.specs.Kept.{AreSummaries}
use Rattle.zone_spans.proofs.kept.Summaries.add_years.Given as goal

abbrev pub invariant-loop-count : goal.invariant-loop-count
invariant-loop-count l = record {
  count : l.count ≡ l.self.quiet + length l.self.years.items;
  are : AreSummaries l.line.info.offset l.line.rules l.self.quiet l.self.years.items;
  quiet : l.self.quiet ≡ l.fn.self.quiet;
}
