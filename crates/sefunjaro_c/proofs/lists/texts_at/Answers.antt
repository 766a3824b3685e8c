use Rattle.std.{proofs.Common.{◌≡◌, length}, specs.Arc.{arc_value}, specs.Prelude.{Ok, Err}}
use Rattle.sefunjaro.specs.{Rooms.{filled}, Shown.{texts_of, textless_place, AreTexts}}
use Rattle.sefunjaro_c.{specs.declared.opened.Opened.TheVariants.{Zone}, proofs.{ListLemmas.{no_place, one_place}, ShownLemmas.{told_places}}}
use Rattle.sefunjaro_c.proofs.lists.texts_at.Goals as goal

pub returns-in-Ok-clause-answer : goal.returns-in-Ok-clause-answer
returns-in-Ok-clause-answer c =
    told_places c.args.opened.now (Zone c.in-Zone.zone) c.deref.result.now (arc_value c.in-Zone.zone) (λ total. textless_place total c.args.seconds.now) 0 c.args.place.now c.args.place.now
    (c.texts_at.new.room ≡ c.args.text.now) (λ total. (c.texts_at.new.room ≡ filled (texts_of total c.args.seconds.now) c.args.text.now) × (c.in-Ok.length ≡ length (texts_of total c.args.seconds.now)))
    (λ total. AreTexts total c.args.seconds.now c.args.text.now c.texts_at.new.room (Ok c.in-Ok.length)) c.in-Zone.is (λ h. h)
    (λ total h. no_place _ _ _ _ h.0 h.1) c.deref.ensures c.in-Ok.ensures

pub returns-in-Err-clause-answer : goal.returns-in-Err-clause-answer
returns-in-Err-clause-answer c =
    told_places c.args.opened.now (Zone c.in-Zone.zone) c.deref.result.now (arc_value c.in-Zone.zone) (λ total. textless_place total c.args.seconds.now) 10 c.args.place.now c.in-Err.textless
    (c.texts_at.new.room ≡ c.args.text.now) (λ total. (c.texts_at.new.room ≡ filled (texts_of total c.args.seconds.now) c.args.text.now) × (c.args.whole.now ≡ length (texts_of total c.args.seconds.now)))
    (λ total. AreTexts total c.args.seconds.now c.args.text.now c.texts_at.new.room (Err c.in-Err.textless)) c.in-Zone.is (λ h. h)
    (λ total h. one_place _ _ _ _ _ h.0 h.1) c.deref.ensures c.in-Err.ensures
