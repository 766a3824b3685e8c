use Rattle.std.{proofs.Common.{◌≡◌, ◌∙◌, inl, refl, ap, subst}, specs.Prelude.{Option, Some, None}, specs.Arc.{arc_value}}
use Rattle.sefunjaro.specs.{Answered.{first_of}, Clocks.{clock_shown}, declared.zone.Reading.{Reading}}
use Rattle.sefunjaro_c.{specs.{Held.{Seen}, declared.opened.Opened.TheVariants.{Zone}, Changes.{IsFound, IsRing}}, proofs.{AskedLemmas.{of_zone}, ShownLemmas.{seen_map}}}
use Rattle.sefunjaro_c.proofs.changes.ring_of.Goals as goal

pub returns-in-Some-ring-clause-answer : goal.returns-in-Some-ring-clause-answer
returns-in-Some-ring-clause-answer c =
    let zone = arc_value c.in-Zone.zone in let known = c.in-Some.ensures.some in let clock = c.args.clock.now in
    let first = c.in-Some-ring.first in let old = c.args.ring.now in
    let found : Seen zone (λ total _. Some first ≡ first_of total c.in-Some.local) =
    subst (λ z. Seen z (λ total _. Some first ≡ first_of total c.in-Some.local)) c.deref.ensures c.in-Some-ring.ensures in
    let answer : IsRing zone clock 0 old first =
    inl (
      known.0,
      seen_map zone (λ total _. Some first ≡ first_of total c.in-Some.local) (λ total _. IsFound (first_of total (clock_shown clock)) 0 old first)
          (λ total gives h. subst (λ (ring : Option Reading). IsFound ring 0 old first) (h ∙ ap (first_of total) known.1) (refl, refl)) found,
    ) in
    of_zone c.args.opened.now (Zone c.in-Zone.zone) 0 (first ≡ old) (λ held. IsRing held clock 0 old first) c.in-Zone.is answer

pub returns-in-None-ring-clause-answer : goal.returns-in-None-ring-clause-answer
returns-in-None-ring-clause-answer c =
    let zone = arc_value c.in-Zone.zone in let known = c.in-Some.ensures.some in let clock = c.args.clock.now in let old = c.args.ring.now in
    let found : Seen zone (λ total _. None ≡ first_of total c.in-Some.local) =
    subst (λ z. Seen z (λ total _. None ≡ first_of total c.in-Some.local)) c.deref.ensures c.in-None-ring.ensures in
    let answer : IsRing zone clock 11 old old =
    inl (
      known.0,
      seen_map zone (λ total _. None ≡ first_of total c.in-Some.local) (λ total _. IsFound (first_of total (clock_shown clock)) 11 old old)
          (λ total gives h. subst (λ (ring : Option Reading). IsFound ring 11 old old) (h ∙ ap (first_of total) known.1) (refl, refl)) found,
    ) in
    of_zone c.args.opened.now (Zone c.in-Zone.zone) 11 (old ≡ old) (λ held. IsRing held clock 11 old old) c.in-Zone.is answer
