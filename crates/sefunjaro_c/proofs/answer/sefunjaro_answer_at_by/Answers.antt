use Rattle.std.proofs.Common.{◌≡◌, to_z-of_z, subst}
use Rattle.sefunjaro.specs.Answers.{IsAnswer, TellsUntil}
use Rattle.sefunjaro_c.{specs.{Held.{OnZone, Seen}, Answers.{is_shown, Where, Within}, Times.{is_instant, nanos_at}}, proofs.AskedLemmas.{handed}}
use Rattle.sefunjaro_c.proofs.answer.sefunjaro_answer_at_by.Goals as goal

pub returns-clause-answer : goal.returns-clause-answer
returns-clause-answer c =
    let told = c.answer_at-status in let old = c.args.name.now in let kept = told.new.name ≡ old in let zone = c.args.zone.now.part.opened in
    subst (λ s. OnZone zone told.result kept (λ held. Within (is_instant s c.args.nanosecond) told.result kept (Seen held (λ total gives.
    Where (is_shown total (nanos_at s c.args.nanosecond)) told.result kept (IsAnswer total gives (nanos_at s c.args.nanosecond) told.new.answer old told.new.name)))))
    (to_z-of_z c.ranges.second)
    (handed c.in-Some.reading (λ reading. reading.opened) zone c.get.result.now told.result kept _ c.in-Some.ensures.reading c.get.ensures told.ensures.answer)

pub returns-clause-saving : goal.returns-clause-saving
returns-clause-saving c =
    let told = c.answer_at-status in
    handed c.in-Some.reading (λ reading. reading.opened) c.args.zone.now.part.opened c.get.result.now told.result _ _
    c.in-Some.ensures.reading c.get.ensures told.ensures.saving

pub returns-clause-until : goal.returns-clause-until
returns-clause-until c =
    let told = c.answer_at-status in let zone = c.args.zone.now.part.opened in
    subst (λ s. OnZone zone told.result (Unit {0}) (λ held. told.result ≡ 0 → TellsUntil held (nanos_at s c.args.nanosecond) told.new.answer))
    (to_z-of_z c.ranges.second)
    (handed c.in-Some.reading (λ reading. reading.opened) zone c.get.result.now told.result _ _ c.in-Some.ensures.reading c.get.ensures told.ensures.until)
