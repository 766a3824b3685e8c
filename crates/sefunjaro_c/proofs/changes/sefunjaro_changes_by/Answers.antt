use Rattle.std.proofs.Common.{◌≡◌, to_z, of_z, to_z-of_z, w64, subst}
use Rattle.sefunjaro_c.{specs.{Held.{OnZone}, Changes.{AreChanges}}, proofs.AskedLemmas.{handed}}
use Rattle.sefunjaro_c.proofs.changes.sefunjaro_changes_by.Goals as goal

pub returns-clause-answer : goal.returns-clause-answer
returns-clause-answer c =
    let told = c.all_changes-status in let old = c.args.changes.now in let new = told.new.changes in let kept = new ≡ old in
    let zone = c.args.zone.now.part.opened in
    subst (λ from. OnZone zone told.result kept (λ held. AreChanges held from c.args.to told.result old new told.new.count)) (to_z-of_z c.ranges.from)
    (subst (λ to. OnZone zone told.result kept (λ held.
    AreChanges held (to_z w64 (of_z w64 c.args.from)) to told.result old new told.new.count)) (to_z-of_z c.ranges.to)
    (handed c.in-Some.reading (λ reading. reading.opened) zone c.get.result.now told.result kept _ c.in-Some.ensures.reading c.get.ensures told.ensures.answer))
