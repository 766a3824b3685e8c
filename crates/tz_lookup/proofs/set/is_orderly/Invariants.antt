use Rattle.tz_lookup.{specs.Sets.{schedule_of}, proofs.OrderlyLemmas.{IsOrderlyUpTo}}
use Rattle.tz_lookup.proofs.set.is_orderly.Given as goal

abbrev pub invariant-loop-i : goal.invariant-loop-i
invariant-loop-i l = IsOrderlyUpTo (schedule_of l.set).first (schedule_of l.set).shifts l.i
