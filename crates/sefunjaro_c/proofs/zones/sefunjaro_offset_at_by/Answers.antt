use Rattle.std.proofs.Common.{◌≡◌, to_z-of_z, subst}
use Rattle.sefunjaro_c.{specs.{Held.{OnZone, Seen}, Answers.{Where}, Times.{is_instant, nanos_at}}, proofs.AskedLemmas.{handed}}
use Rattle.sefunjaro_c.proofs.zones.sefunjaro_offset_at_by.Goals as goal

pub returns-clause-answer : goal.returns-clause-answer
returns-clause-answer c =
    let told = c.offset_at-status in let offset = told.new.offset in let kept = offset ≡ c.args.offset.now in let zone = c.args.zone.now.part.opened in
    subst (λ s. OnZone zone told.result kept (λ held.
    Where (is_instant s c.args.nanosecond) told.result kept (Seen held (λ total _. offset ≡ total (nanos_at s c.args.nanosecond)))))
    (to_z-of_z c.ranges.second)
    (handed c.in-Some.reading (λ reading. reading.opened) zone c.get.result.now told.result kept _ c.in-Some.ensures.reading c.get.ensures told.ensures.answer)
