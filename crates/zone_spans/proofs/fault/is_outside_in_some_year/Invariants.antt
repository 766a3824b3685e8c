use Rattle.std.proofs.Common.{◌≡◌, false}
use Rattle.zone_spans.specs.Faults.{is_outside, some_year}
use Rattle.zone_spans.proofs.fault.is_outside_in_some_year.Given as goal

abbrev pub invariant-loop-i : goal.invariant-loop-i
invariant-loop-i l = some_year (is_outside l.rule) l.i ≡ false
