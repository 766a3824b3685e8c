use Rattle.std.proofs.{Common.{ℤ, pos, ◌+ℤ◌, ◌-ℤ◌, ◌*ℤ◌, FitsSigned, w32, w64, to_z, of_z, to_z-of_z, rules, ap, ◌∙◌, arith}, lemmas.Int.{ints}}
use Rattle.basics.specs.Days.{day}
use Rattle.tz_posix.specs.{InForce.{moments_in}, Yearly.{time_shown}}
use Rattle.tz_tzif.proofs.ChangeLemmas.{AreApart, same_by}
use Rattle.tz_tzif.proofs.rule.next_in.Goals as goal

pub next_of-following-requires : goal.next_of-following-requires
next_of-following-requires c =
    let plus : FitsSigned w32 (to_z w32 (of_z w32 c.args.year) +ℤ pos 1) = search rules in
    let fits : FitsSigned w64 c.first_second-next_year.result = search rules in
    let next = to_z-of_z plus ∙ ap (λ z. z +ℤ pos 1) (to_z-of_z c.ranges.year) in
    let first = c.first_second-next_year.ensures.is ∙ ap (λ z. pos 86400 *ℤ day z 1 1 -ℤ c.args.standard) next in
    let over = c.requires.early c.first_second-next_year.ensures.range in
    record { later = omega (arith, ints, first, over, to_z-of_z c.ranges.second, to_z-of_z fits) }

pub returns-clause-end : goal.returns-clause-end
returns-clause-end c =
    let plus : FitsSigned w32 (to_z w32 (of_z w32 c.args.year) +ℤ pos 1) = search rules in
    let fits : FitsSigned w64 c.first_second-next_year.result = search rules in
    let fits_1 : FitsSigned w64 c.next_of-following.result = search rules in
    let fits_2 : FitsSigned w64 c.next_of-sooner.result = search rules in
    let fits_3 : FitsSigned w64 c.next_of.result = search rules in
    let next = to_z-of_z plus ∙ ap (λ z. z +ℤ pos 1) (to_z-of_z c.ranges.year) in
    let first = c.first_second-next_year.ensures.is ∙ ap (λ z. pos 86400 *ℤ day z 1 1 -ℤ c.args.standard) next in
    omega (
      arith,
      ints,
      first,
      c.next_of-following.ensures.next,
      c.next_of-sooner.ensures.next,
      c.next_of.ensures.next,
      to_z-of_z fits,
      to_z-of_z fits_1,
      to_z-of_z fits_2,
      to_z-of_z fits_3,
    )

pub returns-clause-same : goal.returns-clause-same
returns-clause-same c =
    let moments = moments_in c.args.standard c.args.saving (time_shown c.args.rule.now.start) (time_shown c.args.rule.now.end) in
    let y = c.args.year in
    let year = to_z-of_z c.ranges.year in
    let plus : FitsSigned w32 (to_z w32 (of_z w32 c.args.year) +ℤ pos 1) = search rules in
    let minus : FitsSigned w32 (to_z w32 (of_z w32 c.args.year) -ℤ pos 1) = search rules in
    let fits_1 : FitsSigned w64 c.next_of-following.result = search rules in
    let fits_2 : FitsSigned w64 c.next_of-sooner.result = search rules in
    let fits_3 : FitsSigned w64 c.next_of.result = search rules in
    let second = to_z-of_z c.ranges.second in
    let before = c.moments_in-before.ensures ∙ ap moments (to_z-of_z minus ∙ ap (λ z. z -ℤ pos 1) year) in
    let here = c.moments_in-here.ensures ∙ ap moments year in
    let after = c.moments_in-after.ensures ∙ ap moments (to_z-of_z plus ∙ ap (λ z. z +ℤ pos 1) year) in
    let n = to_z w64 (of_z w64 c.next_of.result) in
    let cast_1 = to_z-of_z fits_1 in
    let cast_2 = to_z-of_z fits_2 in
    let cast_3 = to_z-of_z fits_3 in
    let after_start = ap (λ (m : ℤ × ℤ). m.0) after in
    let after_end = ap (λ (m : ℤ × ℤ). m.1) after in
    let here_start = ap (λ (m : ℤ × ℤ). m.0) here in
    let here_end = ap (λ (m : ℤ × ℤ). m.1) here in
    let before_start = ap (λ (m : ℤ × ℤ). m.0) before in
    let before_end = ap (λ (m : ℤ × ℤ). m.1) before in
    let one = c.next_of-following.ensures in
    let two = c.next_of-sooner.ensures in
    let three = c.next_of.ensures in
    let apart_after : AreApart (moments (y +ℤ pos 1)) c.args.second n = record {
      start = λ l. let m = one.start (omega (arith, ints, second, after_start, l)) in omega (arith, ints, after_start, m, two.next, three.next, cast_1, cast_2, cast_3);
      end = λ l. let m = one.end (omega (arith, ints, second, after_end, l)) in omega (arith, ints, after_end, m, two.next, three.next, cast_1, cast_2, cast_3);
    } in
    let apart_here : AreApart (moments y) c.args.second n = record {
      start = λ l. let m = two.start (omega (arith, ints, second, here_start, l)) in omega (arith, ints, here_start, m, three.next, cast_2, cast_3);
      end = λ l. let m = two.end (omega (arith, ints, second, here_end, l)) in omega (arith, ints, here_end, m, three.next, cast_2, cast_3);
    } in
    let apart_before : AreApart (moments (y -ℤ pos 1)) c.args.second n = record {
      start = λ l. let m = three.start (omega (arith, ints, second, before_start, l)) in omega (arith, ints, before_start, m, cast_3);
      end = λ l. let m = three.end (omega (arith, ints, second, before_end, l)) in omega (arith, ints, before_end, m, cast_3);
    } in
    λ t order sooner. same_by c.args.second t n order sooner (moments (y +ℤ pos 1)) (moments y) (moments (y -ℤ pos 1)) (moments (y -ℤ pos 2))
    apart_after apart_here apart_before
