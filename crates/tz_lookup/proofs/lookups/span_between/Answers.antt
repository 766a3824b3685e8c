use Rattle.std.proofs.{Common.{◌≡◌, ℤ, ◌+◌, ◌<◌, length, w64, to_z, of_z, arith, sym, subst}, lemmas.Int.{to_z-of_z}}
use Rattle.tz_lookup.{specs.{Spans.{IsCut}, Sets.{schedule_of, shifts_of, IsBetween}}, proofs.{CutLemmas.{cut_goes_up, cut_found, cut_lowest}, FoundLemmas.{at_cut}}}
use Rattle.tz_lookup.proofs.lookups.span_between.Goals as goal

pub binary_search-requires-clause-sorted : goal.binary_search-requires-clause-sorted
binary_search-requires-clause-sorted g c =
    cut_goes_up (shifts_of (g.T.SpanTable.seen c.args.set.now))
    (to_z w64 (of_z w64 c.args.second)) c.args.low c.args.high c.requires.between.within c.requires.accepted.times

pub returns-in-None-clause-cut : goal.returns-in-None-clause-cut
returns-in-None-clause-cut g c =
    let shifts = shifts_of (g.T.SpanTable.seen c.args.set.now) in
    let s : ℤ = to_z w64 (of_z w64 c.args.second) in
    let same : s ≡ c.args.second = to_z-of_z w64 c.args.second c.ranges.second in
    subst (λ y. IsCut shifts c.args.low y) same
    (cut_lowest shifts s c.args.low c.args.high c.requires.accepted.times
    (subst (λ y. IsBetween shifts c.args.low c.args.high y) (sym same) c.requires.between) c.in-None.ensures.found)

pub returns-in-Some-clause-cut : goal.returns-in-Some-clause-cut
returns-in-Some-clause-cut g c =
    let shifts = shifts_of (g.T.SpanTable.seen c.args.set.now) in
    let s : ℤ = to_z w64 (of_z w64 c.args.second) in
    let same : s ≡ c.args.second = to_z-of_z w64 c.args.second c.ranges.second in
    let found = c.in-Some.ensures.found in
    let inside : c.in-Some.found < length shifts = omega (arith, found.1, c.requires.between.within) in
    subst (λ y. IsCut shifts (c.in-Some.found + 1) y) same (cut_found shifts s c.in-Some.found inside c.requires.accepted.times found.2)

pub returns-in-None-clause-total : goal.returns-in-None-clause-total
returns-in-None-clause-total g c = λ t at.
    at_cut (schedule_of (g.T.SpanTable.seen c.args.set.now)) t c.args.second _ (sym at) (returns-in-None-clause-cut g c)

pub returns-in-Some-clause-total : goal.returns-in-Some-clause-total
returns-in-Some-clause-total g c = λ t at.
    at_cut (schedule_of (g.T.SpanTable.seen c.args.set.now)) t c.args.second _ (sym at) (returns-in-Some-clause-cut g c)
