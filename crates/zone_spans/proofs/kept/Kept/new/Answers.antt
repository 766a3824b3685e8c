use Rattle.std.proofs.Common.{List, subst, sym, pos, [], arith}
use Rattle.zone_spans.{specs.Kept.{AreSummaries}, specs.declared.kept.Summary.{Summary}, proofs.KeptLemmas.{begun_quiet}}
use Rattle.zone_spans.proofs.kept.Kept.new.Goals as goal

pub returns : goal.returns
returns c =
    subst (λ (ms : List Summary). AreSummaries (pos 0) [] 0 ms) (sym c.new.ensures.items)
    (begun_quiet (pos 0) [] 0 (λ i l. absurd (omega (arith, l))) (omega arith))
