use Rattle.std.proofs.{Common.{w32, w64, SFits, to_z, of_z, ◌≡◌, ◌<ℤ◌, ◌*ℤ◌, ◌+ℤ◌, rules, sym, ap, ◌∙◌, subst, neg_ℤ, pos, ◌≤ℤ◌, arith}, lemmas.Int.{to_z-of_z, ints}}
use Rattle.basics.specs.{DateLaws.{year_of-is}, Dates.{year_of}}
use Rattle.tz_lookup.{specs.Years.{IsWithinYear}, proofs.YearLemmas.{within_year}}
use Rattle.tz_lookup.proofs.compact_set.utc_year.Goals as goal

pub returns : goal.returns
returns c =
    let day = c.day_of.result in
    let fd : SFits w32 day = search rules in
    let fy : SFits w32 c.date_of.result.year = search rules in
    let low : neg_ℤ (pos 4371953) ≤ℤ day = omega (arith, ints, c.day_of.ensures.least) in
    let high : day ≤ℤ pos 2933262 = omega (arith, ints, c.day_of.ensures.greatest) in
    let same = to_z-of_z w64 c.args.second c.ranges.second in
    let year : to_z w32 (of_z w32 c.date_of.result.year) ≡ year_of day =
    to_z-of_z w32 _ fy ∙ c.date_of.ensures.year ∙ ap year_of (to_z-of_z w32 _ fd) in
    subst (λ y. IsWithinYear y c.args.second) (sym year)
    (within_year c.args.second day (year_of day) (subst (λ t. (pos 86400 *ℤ day) ≤ℤ t) same c.day_of.ensures.begun)
    (subst (λ t. t <ℤ (pos 86400 *ℤ day +ℤ pos 86400)) same c.day_of.ensures.lasts) c.requires.first c.requires.last
    (year_of-is day low high))
