use Rattle.sefunjaro_c.proofs.AskedLemmas.{handed}
use Rattle.sefunjaro_c.proofs.zones.sefunjaro_readings_by.Goals as goal

pub returns-clause-answer : goal.returns-clause-answer
returns-clause-answer c =
    handed c.in-Some.reading (λ reading. reading.opened) c.args.zone.now.part.opened c.get.result.now c.all_readings-status.result _ _
    c.in-Some.ensures.reading c.get.ensures c.all_readings-status.ensures.answer
