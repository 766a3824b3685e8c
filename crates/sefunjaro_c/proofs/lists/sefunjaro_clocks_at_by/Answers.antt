use Rattle.sefunjaro_c.proofs.AskedLemmas.{handed}
use Rattle.sefunjaro_c.proofs.lists.sefunjaro_clocks_at_by.Goals as goal

pub returns-clause-answer : goal.returns-clause-answer
returns-clause-answer c =
    let told = c.clocks_at-status in
    handed c.in-Some.reading (λ reading. reading.opened) c.args.zone.now.part.opened c.get.result.now told.result _ _
    c.in-Some.ensures.reading c.get.ensures told.ensures.answer
