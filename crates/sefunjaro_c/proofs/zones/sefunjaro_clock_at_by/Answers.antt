use Rattle.std.proofs.Common.{◌≡◌, to_z-of_z, subst}
use Rattle.sefunjaro_c.{specs.{Held.{OnZone, Seen}, Answers.{is_shown, IsClockIn, Where, Within}, Times.{is_instant, nanos_at}}, proofs.AskedLemmas.{handed}}
use Rattle.sefunjaro_c.proofs.zones.sefunjaro_clock_at_by.Goals as goal

pub returns-clause-answer : goal.returns-clause-answer
returns-clause-answer c =
    let told = c.clock_at-status in let clock = told.new.clock in let kept = clock ≡ c.args.clock.now in let zone = c.args.zone.now.part.opened in
    subst (λ s. OnZone zone told.result kept (λ held. Within (is_instant s c.args.nanosecond) told.result kept (Seen held (λ total _.
    Where (is_shown total (nanos_at s c.args.nanosecond)) told.result kept (IsClockIn total (nanos_at s c.args.nanosecond) clock told.new.offset)))))
    (to_z-of_z c.ranges.second)
    (handed c.in-Some.reading (λ reading. reading.opened) zone c.get.result.now told.result kept _ c.in-Some.ensures.reading c.get.ensures told.ensures.answer)
