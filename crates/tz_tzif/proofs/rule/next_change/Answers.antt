use Rattle.std.proofs.{Common.{◌≡◌, ℤ, pos, neg_ℤ, ◌+ℤ◌, ◌-ℤ◌, ◌*ℤ◌, FitsSigned, w32, w64, to_z, of_z, to_z-of_z, rules, sym, ap, ◌∙◌, subst, arith}, lemmas.Int.{ints}}
use Rattle.basics.specs.{DateLaws.{day-range}, Days.{day, IsCountedYear}, SignedLaws.{signed, signed_casts}}
use Rattle.civil_base.specs.RangeLaws.{offset_greatest, offset_least}
use Rattle.tz_posix.specs.{InForce.{moments_in, year_at}, Yearly.{time_shown}}
use Rattle.tz_tzif.{specs.{FooterForce.{saved_in}, Places.{StandsForYear}}, proofs.ChangeLemmas.{later_year, same_saving}}
use Rattle.tz_tzif.proofs.rule.next_change.Goals as goal

pub next_in-requires-clause-early : goal.next_in-requires-clause-early
next_in-requires-clause-early c =
    let found = c.asked_for-asked.result in
    let second = to_z-of_z c.ranges.second in
    let counted : FitsSigned w32 c.counted_year_at.result = search rules in
    let fits : FitsSigned w32 c.asked_for-asked.result.year = search rules in
    let later : FitsSigned w64 c.asked_for-asked.result.later = search rules in
    let sum : FitsSigned w64 (to_z w64 (of_z w64 c.args.second) +ℤ to_z w64 (of_z w64 c.asked_for-asked.result.later)) = search rules in
    let year = to_z-of_z counted ∙ c.counted_year_at.ensures.year ∙ ap (year_at c.args.standard) second in
    let stands = subst (λ y. StandsForYear y found.year found.later) year c.asked_for-asked.ensures.stands in
    let ends = ap (λ y. pos 86400 *ℤ day (y +ℤ pos 1) 1 1) (to_z-of_z fits) ∙ stands.ends in
    λ offset. omega (arith, signed, to_z-of_z sum, second, to_z-of_z later, ends, later_year c.args.standard c.args.second offset c.requires)

pub overflow_sub-result : goal.overflow_sub-result
overflow_sub-result c =
    let second = to_z-of_z c.ranges.second in
    let fits : FitsSigned w32 c.asked_for-asked.result.year = search rules in
    let later : FitsSigned w64 c.asked_for-asked.result.later = search rules in
    let next : FitsSigned w64 c.next_in.result = search rules in
    let sum : FitsSigned w64 (to_z w64 (of_z w64 c.args.second) +ℤ to_z w64 (of_z w64 c.asked_for-asked.result.later)) = search rules in
    let asked = c.asked_for-asked.ensures.asked in
    let counted : IsCountedYear (c.asked_for-asked.result.year +ℤ pos 1) = record {
      first = omega (arith, ints, asked.first);
      last = omega (arith, ints, asked.last);
    } in
    let range = day-range (c.asked_for-asked.result.year +ℤ pos 1) 1 1 counted (omega arith) (omega arith) (omega arith) (omega arith) in
    let end = ap (λ y. pos 86400 *ℤ day (y +ℤ pos 1) 1 1) (to_z-of_z fits) in
    let least = offset_least c.args.standard c.next_in.ensures.range in
    let after = c.next_in.ensures.later in
    let before = c.next_in.ensures.end in
    let size = c.asked_for-asked.ensures.later in
    omega (arith, signed_casts, after, before, end, range.1, least, size, to_z-of_z sum, to_z-of_z later, to_z-of_z next, second, c.requires.first, c.requires.last)

pub returns-clause-later : goal.returns-clause-later
returns-clause-later c =
    let later : FitsSigned w64 c.asked_for-asked.result.later = search rules in
    let next : FitsSigned w64 c.next_in.result = search rules in
    let sum : FitsSigned w64 (to_z w64 (of_z w64 c.args.second) +ℤ to_z w64 (of_z w64 c.asked_for-asked.result.later)) = search rules in
    omega (arith, ints, to_z-of_z (overflow_sub-result c), c.next_in.ensures.later, to_z-of_z sum, to_z-of_z c.ranges.second, to_z-of_z later, to_z-of_z next)

pub returns-clause-same : goal.returns-clause-same
returns-clause-same c =
    let start = time_shown c.args.rule.now.start in
    let end = time_shown c.args.rule.now.end in
    let moments = moments_in c.args.standard c.args.saving start end in
    let found = c.asked_for-asked.result in
    let second = to_z-of_z c.ranges.second in
    let counted : FitsSigned w32 c.counted_year_at.result = search rules in
    let fits : FitsSigned w32 c.asked_for-asked.result.year = search rules in
    let later : FitsSigned w64 c.asked_for-asked.result.later = search rules in
    let next : FitsSigned w64 c.next_in.result = search rules in
    let sum : FitsSigned w64 (to_z w64 (of_z w64 c.args.second) +ℤ to_z w64 (of_z w64 c.asked_for-asked.result.later)) = search rules in
    let asked = to_z-of_z fits in
    let year = to_z-of_z counted ∙ c.counted_year_at.ensures.year ∙ ap (year_at c.args.standard) second in
    let stands = subst (λ y. StandsForYear y found.year found.later) year c.asked_for-asked.ensures.stands in
    let at = to_z-of_z sum ∙ (λ i. second i +ℤ to_z-of_z later i) in
    let ends = ap (λ y. pos 86400 *ℤ day (y +ℤ pos 1) 1 1) asked in
    let whole = to_z-of_z (overflow_sub-result c) in
    let cast = to_z-of_z next in
    let over = c.next_in.ensures.end in
    λ t order before.
    same_saving c.args.standard c.args.saving start end c.args.second found.year found.later c.next_in.result c.next_in.ensures.range c.requires stands
    (omega (arith, signed, over, ends))
    (λ u from to. sym (λ i. saved_in moments (asked i) u)
    ∙ c.next_in.ensures.same u (omega (arith, ints, from, at)) (omega (arith, ints, to, cast))
    ∙ (λ i. saved_in moments (asked i) (at i)))
    t order (omega (arith, ints, before, whole, cast, to_z-of_z later))
