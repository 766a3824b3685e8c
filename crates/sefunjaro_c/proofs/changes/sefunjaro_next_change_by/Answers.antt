use Rattle.std.proofs.Common.{◌≡◌, to_z-of_z, subst}
use Rattle.sefunjaro.specs.{Changes.{next_after}, Zones.{spans_in}}
use Rattle.sefunjaro_c.{specs.{Held.{OnZone}, Changes.{IsFound}}, proofs.AskedLemmas.{handed}}
use Rattle.sefunjaro_c.proofs.changes.sefunjaro_next_change_by.Goals as goal

pub returns-clause-answer : goal.returns-clause-answer
returns-clause-answer c =
    let told = c.next_change-status in let old = c.args.change.now in let new = told.new.change in let kept = new ≡ old in
    let zone = c.args.zone.now.part.opened in
    subst (λ s. OnZone zone told.result kept (λ held. IsFound (next_after (spans_in held) s) told.result old new))
    (to_z-of_z c.ranges.second)
    (handed c.in-Some.reading (λ reading. reading.opened) zone c.get.result.now told.result kept _ c.in-Some.ensures.reading c.get.ensures told.ensures.answer)
