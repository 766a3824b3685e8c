use Rattle.zone_spans.specs.ScheduleLaws.{total_is_offset}
use Rattle.tz_lookup.proofs.ScanLemmas.{orderly_two}
use Rattle.tz_lookup.proofs.tz.Tz.marked.Goals as goal

pub invariant_of-result-clause-range : goal.invariant_of-result-clause-range
invariant_of-result-clause-range c = λ t. total_is_offset _ t c.requires.accepted.range

pub invariant_of-result-clause-two : goal.invariant_of-result-clause-two
invariant_of-result-clause-two c = λ orderly time. orderly_two _ time c.requires.accepted orderly
