use Rattle.std.proofs.{Common.{List, subst, sym, arith, rules, w64, SFits}, lemmas.Int.{to_z-of_z}}
use Rattle.zone_spans.{specs.Kept.{AreSummaries}, specs.declared.kept.Summary.{Summary}, proofs.KeptLemmas.{begun_quiet}}
use Rattle.zone_spans.proofs.kept.KeptServe.begin.Goals as goal

pub returns-clause-holds : goal.returns-clause-holds
returns-clause-holds c =
    let its = c.line.inside.rules.now in
    let offset = c.line.inside.info.now.offset in
    let fits : SFits w64 offset = search rules in
    let quiet = c.years_before_all.result in
    let none = c.years_before_all.ensures.before in
    subst (λ o. AreSummaries o its quiet c.new.result.items) (sym (to_z-of_z w64 offset fits))
    (subst (λ (ms : List Summary). AreSummaries offset its quiet ms) (sym c.new.ensures.items)
    (begun_quiet offset its quiet none (omega (arith, c.years_before_all.ensures.most, c.requires))))
