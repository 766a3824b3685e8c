use Rattle.std.{proofs.Common.{◌≡◌}, specs.Arc.{arc_value}, specs.Prelude.{Ok, Err}}
use Rattle.sefunjaro.specs.{Rooms.{filled}, Shown.{clocks_of, unshown_place, AreClocks}}
use Rattle.sefunjaro_c.{specs.declared.opened.Opened.TheVariants.{Zone}, proofs.{ListLemmas.{no_place, one_place}, ShownLemmas.{told_places}}}
use Rattle.sefunjaro_c.proofs.lists.clocks_at.Goals as goal

pub returns-in-Ok-clause-answer : goal.returns-in-Ok-clause-answer
returns-in-Ok-clause-answer c =
    told_places c.args.opened.now (Zone c.in-Zone.zone) c.deref.result.now (arc_value c.in-Zone.zone) (λ total. unshown_place total c.args.seconds.now) 0 c.args.place.now c.args.place.now
    (c.clocks_at.new.room ≡ c.args.clocks.now) (λ total. c.clocks_at.new.room ≡ filled (clocks_of total c.args.seconds.now) c.args.clocks.now)
    (λ total. AreClocks total c.args.seconds.now c.args.clocks.now c.clocks_at.new.room (Ok tt)) c.in-Zone.is (λ h. h)
    (λ total h. no_place _ _ _ _ h.0 h.1) c.deref.ensures c.in-Ok.ensures

pub returns-in-Err-clause-answer : goal.returns-in-Err-clause-answer
returns-in-Err-clause-answer c =
    told_places c.args.opened.now (Zone c.in-Zone.zone) c.deref.result.now (arc_value c.in-Zone.zone) (λ total. unshown_place total c.args.seconds.now) 10 c.args.place.now c.in-Err.unshown
    (c.clocks_at.new.room ≡ c.args.clocks.now) (λ total. c.clocks_at.new.room ≡ filled (clocks_of total c.args.seconds.now) c.args.clocks.now)
    (λ total. AreClocks total c.args.seconds.now c.args.clocks.now c.clocks_at.new.room (Err c.in-Err.unshown)) c.in-Zone.is (λ h. h)
    (λ total h. one_place _ _ _ _ _ h.0 h.1) c.deref.ensures c.in-Err.ensures
