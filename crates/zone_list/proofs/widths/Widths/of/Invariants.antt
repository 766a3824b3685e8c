use Rattle.std.{proofs.Common.{◌≡◌, ℕ, map, ℤ}, specs.Prelude.{max}}
use Rattle.tz_lookup.specs.declared.set.FixedTimespanSet.{FixedTimespanSet}
use Rattle.zone_list.{specs.Rows.{name_of, time_of, widest}, specs.Windows.{window}, proofs.StepLemmas.{left}}
use Rattle.zone_list.proofs.widths.Widths.of.Given as goal

-- the widest so far and that of what is left are the widest of all
pub record SoFar (times names : ℕ) (from to : ℤ) (set : FixedTimespanSet) (i : ℕ) : Type 0 where
  pub of_times : max times (widest (map time_of (left from to set i))) ≡ widest (map time_of (window set from to))
  pub of_names : max names (widest (map name_of (left from to set i))) ≡ widest (map name_of (window set from to))

abbrev pub invariant-loop-place : goal.invariant-loop-place
invariant-loop-place g l = SoFar l.widths.times l.widths.names l.asked.from l.asked.to (g.S.SpanTable.seen l.set) l.place
