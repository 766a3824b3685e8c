use Rattle.std.proofs.{Common.{◌≡◌, ℤ, pos, ◌+ℤ◌, ◌-ℤ◌, ◌*ℤ◌, w32, w64, to_z, of_z, FitsSigned, to_z-of_z, rules, arith, ap, ◌∙◌}, lemmas.Int.{ints}}
use Rattle.basics.specs.Days.{day}
use Rattle.tz_posix.specs.InForce.{moments_in, year_at}
use Rattle.zone_tail.{specs.Rules.{IsNearYear, time_of}, proofs.PieceLemmas.{constant_up_to}, proofs.YearLemmas.{year_at-in}}
use Rattle.zone_tail.proofs.rule.YearlyRule.next_change.Goals as goal

abbrev short : ℤ → ℤ
short z = to_z w32 (of_z w32 z)

plus_one : (r y : ℤ) → r ≡ y → IsNearYear r → short (short r +ℤ pos 1) ≡ y +ℤ pos 1
plus_one r y e near = omega (arith, ints, e, near.first, near.last)

-- r and n: the year, and the second at which the next one begins, as they were computed
next_is : (o second r n : ℤ) → r ≡ year_at o second → IsNearYear r → n ≡ pos 86400 *ℤ day (short (short r +ℤ pos 1)) 1 1 -ℤ o
    → n ≡ pos 86400 *ℤ day (year_at o second +ℤ pos 1) 1 1 -ℤ o
next_is o second r n is near at = at ∙ ap (λ y. pos 86400 *ℤ day y 1 1 -ℤ o) (plus_one r (year_at o second) is near)

pub sooner-requires : goal.sooner-requires
sooner-requires c =
    let q = c.args.self.now in
    let fits : FitsSigned w64 c.first_second-next_year.result = search rules in
    let is = c.year_at-year.ensures.year ∙ ap (year_at q.standard) (to_z-of_z c.ranges.second) in
    let next = next_is q.standard c.args.second c.year_at-year.result c.first_second-next_year.result is c.year_at-year.ensures.near c.first_second-next_year.ensures in
    let here = year_at-in q.standard c.args.second c.requires.sound.standard c.requires.reach in
    record { later = omega (arith, ints, next, here.not_over) }

pub returns-clause-same : goal.returns-clause-same
returns-clause-same c =
    let q = c.args.self.now in
    let moments = c.moments_in-moments.result in
    let fits_year : FitsSigned w32 c.year_at-year.result = search rules in
    let fits_start : FitsSigned w64 moments.start = search rules in
    let fits_end : FitsSigned w64 moments.end = search rules in
    let fits_next : FitsSigned w64 c.sooner-2.result = search rules in
    let fits_last : FitsSigned w64 c.sooner.result = search rules in
    let fits_year_end : FitsSigned w64 c.first_second-next_year.result = search rules in
    let is = c.year_at-year.ensures.year ∙ ap (year_at q.standard) (to_z-of_z c.ranges.second) in
    let next = next_is q.standard c.args.second c.year_at-year.result c.first_second-next_year.result is c.year_at-year.ensures.near c.first_second-next_year.ensures in
    let both = c.moments_in-moments.ensures ∙ ap (moments_in q.standard q.saving (time_of q.start) (time_of q.end)) (to_z-of_z fits_year ∙ is) in
    let start = ap (λ (m : ℤ × ℤ). m.0) both in
    let stop = ap (λ (m : ℤ × ℤ). m.1) both in
    constant_up_to q c.args.second (to_z w64 (of_z w64 c.sooner-2.result)) c.requires.sound.standard c.requires.reach
    (omega (arith, ints, next))
    (λ l. let m = c.sooner-2.ensures.change (omega (arith, ints, start, l)) in omega (arith, ints, start))
    (λ l. let m = c.sooner.ensures.change (omega (arith, ints, stop, l)) in omega (arith, ints, stop))
