use Rattle.std.{proofs.Common.{◌≡◌, ℤ, inl, refl, subst}, specs.Arc.{arc_value}}
use Rattle.sefunjaro.specs.{Answered.{AreReadings}, declared.zone.OpenZone.{OpenZone}}
use Rattle.sefunjaro_c.{specs.{Held.{Seen}, declared.opened.Opened.TheVariants.{Zone}, Answers.{OfClock}}, proofs.AskedLemmas.{of_zone}}
use Rattle.sefunjaro_c.proofs.zones.all_readings.Goals as goal

pub returns-in-Some-clause-answer : goal.returns-in-Some-clause-answer
returns-in-Some-clause-answer c =
    let zone = arc_value c.in-Zone.zone in let known = c.in-Some.ensures.some in let told = c.readings_or_gap in let old = c.args.readings.now in
    let kept = told.new.room ≡ old in let clock = c.args.clock.now in
    let read : OpenZone → ℤ → Type 0 = λ z x. Seen z (λ total _. AreReadings total x old told.new.room told.result told.new.gap) in
    let answer : OfClock clock 0 kept (read zone) =
    inl (refl, (known.0, subst (read zone) known.1 (subst (λ z. read z c.in-Some.local) c.deref.ensures told.ensures.answer))) in
    of_zone c.args.opened.now (Zone c.in-Zone.zone) 0 kept (λ held. OfClock clock 0 kept (read held)) c.in-Zone.is answer
