use Rattle.std.{proofs.Common.{◌≡◌, drop, not, int_lt}, specs.List.{list_all}}
use Rattle.zone_spans.proofs.turns.none_after.Given as goal

abbrev pub invariant-loop-entry : goal.invariant-loop-entry
invariant-loop-entry l = list_all (λ e. not (int_lt l.second e.0)) (drop l.entry-index l.entries) ≡ list_all (λ e. not (int_lt l.second e.0)) l.entries
