use Rattle.std.proofs.Common.{◌≡◌, ℤ, ◌+ℤ◌, FitsSigned, w32, w64, to_z, of_z, to_z-of_z, rules, ap, ◌∙◌, subst}
use Rattle.tz_posix.specs.{InForce.{moments_in, year_at}, Yearly.{time_shown}}
use Rattle.tz_tzif.specs.{FooterForce.{is_footer_saving, saved_in}, Places.{StandsForYear}}
use Rattle.tz_tzif.proofs.rule.is_saving.Goals as goal

pub returns : goal.returns
unfolding is_footer_saving
returns c =
    let start = time_shown c.args.rule.now.start in
    let end = time_shown c.args.rule.now.end in
    let moments = moments_in c.args.standard c.args.saving start end in
    let found = c.asked_for-asked.result in
    let second = to_z-of_z c.ranges.second in
    let counted : FitsSigned w32 c.counted_year_at.result = search rules in
    let fits : FitsSigned w32 c.asked_for-asked.result.year = search rules in
    let later : FitsSigned w64 c.asked_for-asked.result.later = search rules in
    let sum : FitsSigned w64 (to_z w64 (of_z w64 c.args.second) +ℤ to_z w64 (of_z w64 c.asked_for-asked.result.later)) = search rules in
    let year = to_z-of_z counted ∙ c.counted_year_at.ensures.year ∙ ap (year_at c.args.standard) second in
    let stands = subst (λ y. StandsForYear y found.year found.later) year c.asked_for-asked.ensures.stands in
    let at = to_z-of_z sum ∙ (λ i. second i +ℤ to_z-of_z later i) in
    c.is_saving_in.ensures
    ∙ (λ i. saved_in moments (to_z-of_z fits i) (at i))
    ∙ stands.gives c.args.standard c.args.saving start end c.args.second
