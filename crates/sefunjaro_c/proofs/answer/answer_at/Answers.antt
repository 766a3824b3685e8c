use Rattle.std.{proofs.Common.{◌≡◌, ◌∙◌, to_z-of_z, ℤ, true, ap, subst}, specs.Arc.{arc_value}}
use Rattle.civil_base.specs.DateTimes.{instant}
use Rattle.sefunjaro.specs.{Answers.{IsAnswer, TellsSaving, TellsUntil}, declared.zone.OpenZone.{OpenZone}}
use Rattle.sefunjaro_c.{specs.{Held.{Seen}, declared.opened.Opened.TheVariants.{Zone}, Answers.{is_shown, Where, Within}, Times.{is_instant, nanos_at}}, proofs.AskedLemmas.{of_zone, within_true}}
use Rattle.sefunjaro_c.proofs.answer.answer_at.Goals as goal

pub returns-in-Some-clause-answer : goal.returns-in-Some-clause-answer
returns-in-Some-clause-answer c =
    let s = c.args.second in let n = c.args.nanosecond in let zone = arc_value c.in-Zone.zone in
    let same = to_z-of_z c.ranges.second in let known = c.in-Some.ensures.some in let told = c.answer_in in
    let old = c.args.name.now in let kept = told.new.name ≡ old in
    let shown : OpenZone → ℤ → Type 0 = λ z t. Seen z (λ total gives.
    Where (is_shown total t) told.result kept (IsAnswer total gives t told.new.answer old told.new.name)) in
    of_zone c.args.opened.now (Zone c.in-Zone.zone) told.result kept
    (λ held. Within (is_instant s n) told.result kept (shown held (nanos_at s n))) c.in-Zone.is
    (within_true (is_instant s n) told.result kept (shown zone (nanos_at s n)) (subst (λ u. is_instant u n ≡ true) same known.0)
    (subst (shown zone) (known.1 ∙ ap (λ u. nanos_at u n) same)
    (subst (λ z. shown z (instant c.in-Some.at)) c.deref.ensures told.ensures.answer)))

pub returns-in-Some-clause-saving : goal.returns-in-Some-clause-saving
returns-in-Some-clause-saving c =
    let zone = arc_value c.in-Zone.zone in let told = c.answer_in in
    of_zone c.args.opened.now (Zone c.in-Zone.zone) told.result (Unit {0}) (λ held. told.result ≡ 0 → TellsSaving held told.new.answer) c.in-Zone.is
    (λ e. subst (λ z. TellsSaving z told.new.answer) c.deref.ensures (told.ensures.saving e))

pub returns-in-Some-clause-until : goal.returns-in-Some-clause-until
returns-in-Some-clause-until c =
    let s = c.args.second in let n = c.args.nanosecond in
    let zone = arc_value c.in-Zone.zone in let told = c.answer_in in let answer = told.new.answer in
    let at = c.in-Some.ensures.some.1 ∙ ap (λ u. nanos_at u n) (to_z-of_z c.ranges.second) in
    of_zone c.args.opened.now (Zone c.in-Zone.zone) told.result (Unit {0}) (λ held. told.result ≡ 0 → TellsUntil held (nanos_at s n) answer) c.in-Zone.is
    (λ e. subst (λ t. TellsUntil zone t answer) at (subst (λ z. TellsUntil z (instant c.in-Some.at) answer) c.deref.ensures (told.ensures.until e)))
