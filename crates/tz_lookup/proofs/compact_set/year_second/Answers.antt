use Rattle.std.proofs.{Common.{w32, w64, SFits, rules, ap, ◌∙◌, pos, ◌*ℤ◌}, lemmas.Int.{to_z-of_z}}
use Rattle.basics.specs.Days.{day}
use Rattle.tz_lookup.specs.Years.{year_second}
use Rattle.tz_lookup.proofs.compact_set.year_second.Goals as goal

pub returns-clause-value : goal.returns-clause-value
unfolding year_second
returns-clause-value c =
    let fs : SFits w64 c.second_of.result = search rules in
    let fd : SFits w32 c.day_number.result = search rules in
    let fy : SFits w32 c.year_at.result = search rules in
    to_z-of_z w64 _ fs ∙ c.second_of.ensures.value
    ∙ ap (λ d. pos 86400 *ℤ d) (to_z-of_z w32 _ fd ∙ c.day_number.ensures.value ∙ ap (λ y. day y 1 1) (to_z-of_z w32 _ fy ∙ c.year_at.ensures))
