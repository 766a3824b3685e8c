use Rattle.std.proofs.{Common.{◌≡◌, ◌+◌, ◌-◌, suc, length, ℤ, w64, to_z, of_z, sym, ap, ◌∙◌, subst, arith}, lemmas.Int.{to_z-of_z}, lemmas.List.{length-map}}
use Rattle.tz_lookup.{specs.{Sets.{shift_of, shifts_of, IsNear}, CompactShown.{seen}, YearCounts.{before_year}}, proofs.YearCountLemmas.{near_is}}
use Rattle.tz_lookup.proofs.compact_set.CompactSet.near.Goals as goal

pub returns-clause-near : goal.returns-clause-near
returns-clause-near c =
    let set = seen c.args.self.now in
    let years = c.args.self.now.years in
    let n = length set.others in
    let s : ℤ = to_z w64 (of_z w64 c.args.second) in
    let year = c.years_begun-year.result in
    let next : year + 2 ≡ suc (suc year) = omega arith in
    let near = near_is (shifts_of set) years n (sym (length-map set.others shift_of)) c.args.self.now.counted year s c.years_begun-year.ensures in
    let low : c.before_year-low.result ≡ before_year years n (year - 1) = c.before_year-low.ensures.value ∙ ap (before_year years n) c.saturating_sub.ensures in
    let high : c.before_year-high.result ≡ before_year years n (suc (suc year)) = c.before_year-high.ensures.value ∙ ap (before_year years n) next in
    subst (λ t. IsNear (shifts_of set) c.before_year-low.result c.before_year-high.result t) (to_z-of_z w64 c.args.second c.ranges.second)
    (subst (λ k. IsNear (shifts_of set) k c.before_year-high.result s) (sym low)
    (subst (λ k. IsNear (shifts_of set) (before_year years n (year - 1)) k s) (sym high) near))
