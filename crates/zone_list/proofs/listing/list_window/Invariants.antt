use Rattle.std.proofs.Common.{◌≡◌, ℕ, ◌++◌, List, map, ℤ}
use Rattle.tz_lookup.specs.declared.set.FixedTimespanSet.{FixedTimespanSet}
use Rattle.zone_list.{specs.Ranges.{all_have_dates}, specs.Rows.{row}, specs.Windows.{window}, proofs.StepLemmas.{left}}
use Rattle.zone_list.proofs.listing.list_window.Given as goal

-- what is listed and the rows of what is left are all rows; whether all have dates is whether those that are left have
pub record SoFar (times names : ℕ) (from to : ℤ) (set : FixedTimespanSet) (listing : List (List ℕ)) (i : ℕ) : Type 0 where
  pub listed : listing ++ map (row times names) (left from to set i) ≡ map (row times names) (window set from to)
  pub dates : all_have_dates (left from to set i) ≡ all_have_dates (window set from to)

abbrev pub invariant-loop-place : goal.invariant-loop-place
invariant-loop-place g l = SoFar l.widths.times l.widths.names l.asked.from l.asked.to (g.S.SpanTable.seen l.set) l.listing l.place
