use Rattle.std.proofs.{Common.{◌+ℤ◌, ◌≤ℤ◌, ◌<ℤ◌, FitsSigned, w64, rules, to_z-of_z, sym, ap, ◌∙◌, subst}, lemmas.Bool.{and_parts}}
use Rattle.basics.specs.ComparisonLaws.{le_from_pass, lt_from_pass}
use Rattle.zone_tzif.specs.{Agreement.{cycle_begin}, Tried.{next_year}}
use Rattle.zone_tzif.proofs.tried.local_of.Goals as goal

pub ahead-requires-clause-begun : goal.ahead-requires-clause-begun
ahead-requires-clause-begun g c =
    let fits : FitsSigned w64 c.entry_time.result = search rules in
    let both = and_parts _ _ c.requires.of_year in
    subst (λ x. cycle_begin ≤ℤ x) (sym (to_z-of_z fits ∙ c.entry_time.ensures)) (le_from_pass _ _ both.0)

pub ahead-requires-clause-not_over : goal.ahead-requires-clause-not_over
ahead-requires-clause-not_over g c =
    let fits : FitsSigned w64 c.entry_time.result = search rules in
    let both = and_parts _ _ c.requires.of_year in
    subst (λ x. x <ℤ next_year) (sym (to_z-of_z fits ∙ c.entry_time.ensures)) (lt_from_pass _ _ both.1)

pub returns-clause-is : goal.returns-clause-is
returns-clause-is g c =
    let fits : FitsSigned w64 c.entry_time.result = search rules in
    let fits_sum : FitsSigned w64 c.ahead.result = search rules in
    let is = (rw (to_z-of_z fits, to_z-of_z c.ranges.total) at c.ahead.ensures.is) ∙ ap (λ s. s +ℤ c.args.total) c.entry_time.ensures in
    to_z-of_z fits_sum ∙ is
