use Rattle.tz_lookup.specs.{Sets.{shifts_of}, YearCounts.{AreBefore}, Years.{year_second}}
use Rattle.tz_lookup.proofs.compact_set.entries_before.Given as goal

-- the entries so far lie before the year
abbrev pub invariant-loop-index : goal.invariant-loop-index
invariant-loop-index l = AreBefore (shifts_of l.set) l.index (year_second l.place)
