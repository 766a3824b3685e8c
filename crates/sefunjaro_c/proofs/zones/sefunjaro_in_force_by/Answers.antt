use Rattle.std.proofs.Common.{◌≡◌, to_z-of_z, subst}
use Rattle.sefunjaro.specs.Answered.{IsInForce}
use Rattle.sefunjaro_c.{specs.{Held.{OnZone, Seen}, Answers.{Where}, Times.{is_instant, nanos_at}}, proofs.AskedLemmas.{handed}}
use Rattle.sefunjaro_c.proofs.zones.sefunjaro_in_force_by.Goals as goal

pub returns-clause-answer : goal.returns-clause-answer
returns-clause-answer c =
    let told = c.in_force-status in let old = c.args.name.now in let new = told.new.name in let kept = new ≡ old in
    let zone = c.args.zone.now.part.opened in
    subst (λ s. OnZone zone told.result kept (λ held. Where (is_instant s c.args.nanosecond) told.result kept
    (Seen held (λ total gives. IsInForce total gives (nanos_at s c.args.nanosecond) told.new.found old new))))
    (to_z-of_z c.ranges.second)
    (handed c.in-Some.reading (λ reading. reading.opened) zone c.get.result.now told.result kept _ c.in-Some.ensures.reading c.get.ensures told.ensures.answer)
