use Rattle.std.proofs.Common.{to_z-of_z, rules, FitsSigned, w32, w64, ◌∙◌, subst, sym}
use Rattle.tz_posix.specs.InForce.{year_at}
use Rattle.zone_tail.{specs.Rules.{IsNearYear}, proofs.YearLemmas.{year_near}}
use Rattle.zone_tail.proofs.rule.YearlyRule.year_at.Goals as goal

pub returns-clause-near : goal.returns-clause-near
returns-clause-near c =
    let o = c.args.self.now.standard in
    let fits : FitsSigned w32 c.counted_year_at.result = search rules in
    let fits_standard : FitsSigned w64 o = search rules in
    let offset = c.offset_of.ensures ∙ to_z-of_z fits_standard in
    let is = to_z-of_z fits ∙ c.counted_year_at.ensures.year ∙ (λ i. year_at (offset i) (to_z-of_z c.ranges.second i)) in
    subst IsNearYear (sym is) (year_near o c.args.second c.requires.sound.standard c.requires.reach)
