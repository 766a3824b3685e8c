use Rattle.std.{proofs.Common.{ap, ◌∙◌}, specs.Prelude.{option_map}, specs.List.{slice_get}}
use Rattle.tz_lookup.specs.InForce.{all_in_force, shown_of}
use Rattle.zone_alarm.{specs.Rings.{ring_on}, proofs.RingLemmas.{first_shown}}
use Rattle.zone_alarm.proofs.daily.ring_on.Goals as goal

pub returns : goal.returns
unfolding ring_on
returns g c =
    let total = g.T.TimeZone.total_at c.args.zone.now in
    let first = first_shown c.assume_timezone.result _ c.assume_timezone.ensures.shown in
    ap (λ o. (c.args.date, o))
    (ap (option_map shown_of) c.take_first.ensures ∙ first ∙ ap (λ x. slice_get (all_in_force total x) 0) c.new.ensures)
