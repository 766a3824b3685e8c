use Rattle.std.{proofs.Common.{◌≡◌, drop}, specs.List.{list_any}}
use Rattle.zone_spans.specs.Faults.{is_outside, some_year}
use Rattle.zone_spans.proofs.fault.any_outside.Given as goal

abbrev pub invariant-loop-rule : goal.invariant-loop-rule
invariant-loop-rule l = list_any (λ rule. some_year (is_outside rule) l.count) (drop l.rule-index l.rules) ≡ list_any
    (λ rule. some_year (is_outside rule) l.count) l.rules
