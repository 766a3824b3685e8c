use Rattle.std.{proofs.Common.{◌≡◌, ◌+ℤ◌, ◌-ℤ◌, ◌*ℤ◌, ◌≤ℤ◌, ◌<ℤ◌, pos, to_z-of_z, sym, ap, ◌∙◌, subst}, specs.Int.{int_div_euclid}}
use Rattle.zone_tzif.{specs.Tried.{days_back}, proofs.DayLemmas.{begun_by, named_by, near_day, over_by, IsNamedDay}}
use Rattle.zone_tzif.proofs.text.named_day.Goals as goal

-- the day on which the local second lies, as it is computed
day_is : (c : goal.After-days_back-back) → c.div_euclid-day.result ≡ int_div_euclid c.args.local (pos 86400)
day_is c = rw (to_z-of_z c.ranges.local) at c.div_euclid-day.ensures

-- and the day that is named
named : (c : goal.After-days_back-back) → IsNamedDay c.div_euclid-day.result c.days_back-back.result
named c =
    let near = near_day c.args.local c.div_euclid-day.result (day_is c) c.requires.least c.requires.greatest in
    named_by c.div_euclid-day.result c.days_back-back.result near.0 near.1 c.days_back-back.ensures.least c.days_back-back.ensures.greatest

pub returns-clause-is : goal.returns-clause-is
returns-clause-is c =
    let b = c.days_back-back.ensures.is ∙ ap (λ late. days_back late c.args.number) (rw (to_z-of_z c.ranges.local) at c.is_past_noon.ensures) in
    (named c).computed ∙ (λ i. day_is c i -ℤ b i)

pub returns-clause-begun : goal.returns-clause-begun
returns-clause-begun c =
    subst (λ z. (pos 86400 *ℤ z) ≤ℤ (c.args.local +ℤ pos 604800)) (sym (named c).computed)
    (begun_by c.args.local c.div_euclid-day.result c.days_back-back.result (day_is c) c.days_back-back.ensures.least)

pub returns-clause-not_over : goal.returns-clause-not_over
returns-clause-not_over c =
    subst (λ z. c.args.local <ℤ (pos 86400 *ℤ z +ℤ pos 604800)) (sym (named c).computed)
    (over_by c.args.local c.div_euclid-day.result c.days_back-back.result (day_is c) c.days_back-back.ensures.greatest)

pub returns-clause-least : goal.returns-clause-least
returns-clause-least c = subst (λ z. pos 0 ≤ℤ z) (sym (named c).computed) (named c).least

pub returns-clause-greatest : goal.returns-clause-greatest
returns-clause-greatest c = subst (λ z. z ≤ℤ pos 100000) (sym (named c).computed) (named c).greatest
