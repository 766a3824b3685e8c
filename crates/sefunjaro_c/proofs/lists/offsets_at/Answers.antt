use Rattle.std.{proofs.Common.{◌≡◌, ◌∙◌, refl, sym, subst}, specs.Arc.{arc_value}}
use Rattle.sefunjaro.specs.{Offsets.{offsets_of}, Rooms.{filled}}
use Rattle.sefunjaro_c.{specs.{Held.{Seen}, declared.opened.Opened.TheVariants.{Zone}, Lists.{far_place, OfPlace}}, proofs.{AskedLemmas.{of_zone}, ListLemmas.{all_in_years}}}
use Rattle.sefunjaro_c.proofs.lists.offsets_at.Goals as goal

pub offsets_at-requires : goal.offsets_at-requires
offsets_at-requires c = all_in_years c.args.seconds.now (sym c.far_place.ensures ∙ c.in-None.is)

pub returns-in-None-clause-answer : goal.returns-in-None-clause-answer
returns-in-None-clause-answer c =
    let seconds = c.args.seconds.now in
    let place = c.args.place.now in
    let old = c.args.offsets.now in
    let new = c.offsets_at.new.room in
    let zone = arc_value c.in-Zone.zone in
    let none = sym c.far_place.ensures ∙ c.in-None.is in
    of_zone c.args.opened.now (Zone c.in-Zone.zone) 0 ((new ≡ old) × (place ≡ place))
    (λ held. OfPlace (far_place seconds) 0 place place (new ≡ old) (Seen held (λ total _. new ≡ filled (offsets_of total seconds) old))) c.in-Zone.is
    (subst (λ far. OfPlace far 0 place place (new ≡ old) (Seen zone (λ total _. new ≡ filled (offsets_of total seconds) old))) (sym none)
    (refl, (refl, subst (λ z. Seen z (λ total _. new ≡ filled (offsets_of total seconds) old)) c.deref.ensures c.offsets_at.ensures)))

pub returns-in-Some-clause-answer : goal.returns-in-Some-clause-answer
returns-in-Some-clause-answer c =
    let seconds = c.args.seconds.now in
    let place = c.args.place.now in
    let old = c.args.offsets.now in
    let far = sym c.far_place.ensures ∙ c.in-Some.is in
    of_zone c.args.opened.now (Zone c.in-Zone.zone) 10 ((old ≡ old) × (c.in-Some.far ≡ place))
    (λ held. OfPlace (far_place seconds) 10 place c.in-Some.far (old ≡ old) (Seen held (λ total _. old ≡ filled (offsets_of total seconds) old))) c.in-Zone.is
    (subst (λ found. OfPlace found 10 place c.in-Some.far (old ≡ old) (Seen (arc_value c.in-Zone.zone) (λ total _. old ≡ filled (offsets_of total seconds) old)))
    (sym far) (refl, (refl, refl)))
