use Rattle.std.{proofs.Common.{◌≡◌, drop}, specs.List.{list_all}}
use Rattle.zone_spans.specs.GoesOn.{ends_by_then}
use Rattle.zone_spans.proofs.goes_on.all_end_by_then.Given as goal

abbrev pub invariant-loop-line : goal.invariant-loop-line
invariant-loop-line l = list_all (λ line. ends_by_then line.end) (drop l.line-index l.lines) ≡ list_all (λ line. ends_by_then line.end) l.lines
