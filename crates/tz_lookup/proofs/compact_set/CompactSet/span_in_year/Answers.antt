use Rattle.std.proofs.{Common.{◌≡◌, ◌+◌, ◌-◌, ◌≤◌, suc, length, ℤ, w64, to_z, of_z, sym, ap, ◌∙◌, subst, arith}, lemmas.Int.{to_z-of_z}, lemmas.List.{length-map}}
use Rattle.tz_lookup.{specs.{Sets.{shift_of, shifts_of, IsBetween}, CompactShown.{seen}, YearCounts.{before_year}, Years.{changes_in_year, HaveBegun}}, proofs.YearCountLemmas.{between_is, year_changes, paid_by}}
use Rattle.tz_lookup.proofs.compact_set.CompactSet.span_in_year.Goals as goal

pub span_between-requires-clause-between : goal.span_between-requires-clause-between
span_between-requires-clause-between g c =
    let set = seen c.args.self.now in
    let years = c.args.self.now.years in
    let n = length set.others in
    let s : ℤ = to_z w64 (of_z w64 c.args.second) in
    let year = c.years_begun-year.result in
    let next : year + 1 ≡ suc year = omega arith in
    let between = between_is (shifts_of set) years n (sym (length-map set.others shift_of)) c.args.self.now.counted year s c.years_begun-year.ensures in
    subst (λ low. IsBetween (shifts_of set) low c.before_year-high.result s) (sym c.before_year-low.ensures.value)
    (subst (λ high. IsBetween (shifts_of set) (before_year years n year) high s)
    (sym (c.before_year-high.ensures.value ∙ ap (before_year years n) next)) between)

pub returns-clause-total : goal.returns-clause-total
returns-clause-total g c = λ t at. c.span_between.ensures.total t (at ∙ sym (to_z-of_z w64 c.args.second c.ranges.second))

pub returns-clause-cost : goal.returns-clause-cost
returns-clause-cost g c =
    let set = seen c.args.self.now in
    let years = c.args.self.now.years in
    let n = length set.others in
    let year = c.years_begun-year.result in
    let next : year + 1 ≡ suc year = omega arith in
    let begun = subst (HaveBegun year) (to_z-of_z w64 c.args.second c.ranges.second) c.years_begun-year.ensures in
    let few : c.before_year-high.result - c.before_year-low.result ≤ changes_in_year set c.args.second =
    subst (λ low. c.before_year-high.result - low ≤ changes_in_year set c.args.second) (sym c.before_year-low.ensures.value)
    (subst (λ high. high - before_year years n year ≤ changes_in_year set c.args.second)
    (sym (c.before_year-high.ensures.value ∙ ap (before_year years n) next)) (year_changes set years year c.args.second c.args.self.now.counted begun)) in
    paid_by _ _ _ c.span_between.ensures.cost few
