use Rattle.std.proofs.{Common.{w32, w64, SFits, rules, ◌-ℤ◌, ◌+ℤ◌, ap, ◌∙◌, subst, ◌<ℤ◌, ◌≤ℤ◌, pos, negsuc}, lemmas.Int.{to_z-of_z}}
use Rattle.basics.specs.ComparisonLaws.{lt_from_pass, le_from_pass}
use Rattle.tz_lookup.{specs.Years.{IsWithinYear}, proofs.YearLemmas.{before_all, after_all, within_begun}}
use Rattle.tz_lookup.proofs.compact_set.years_begun.Goals as goal

pub returns-then-second-lt-RULES_BEGIN : goal.returns-then-second-lt-RULES_BEGIN
returns-then-second-lt-RULES_BEGIN c =
    let same = to_z-of_z w64 c.args.second c.ranges.second in
    before_all c.args.second (subst (λ s. s <ℤ negsuc 5364662399) same (lt_from_pass _ _ c.if-second-lt-RULES_BEGIN.true))

pub returns-then-second-ge-COUNTED_END : goal.returns-then-second-ge-COUNTED_END
returns-then-second-ge-COUNTED_END c =
    let same = to_z-of_z w64 c.args.second c.ranges.second in
    after_all c.args.second (subst (λ s. pos 26192246400 ≤ℤ s) same (le_from_pass _ _ c.if-second-ge-COUNTED_END.true))

pub returns-else-second-ge-COUNTED_END : goal.returns-else-second-ge-COUNTED_END
returns-else-second-ge-COUNTED_END c =
    let same = to_z-of_z w64 c.args.second c.ranges.second in
    let fits : SFits w32 c.utc_year.result = search rules in
    within_begun c.year_number.result c.utc_year.result c.args.second
    (c.year_number.ensures.value ∙ ap (λ y. y -ℤ pos 1800 +ℤ pos 1) (to_z-of_z w32 _ fits))
    (subst (IsWithinYear c.utc_year.result) same c.utc_year.ensures)
