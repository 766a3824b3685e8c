use Rattle.std.proofs.{Common.{ℤ, ◌≤ℤ◌, to_z, of_z, w64, SFits, rules, arith, ◌∙◌, subst}, lemmas.Int.{to_z-of_z}, lemmas.List.{length-map}}
use Rattle.basics.specs.ComparisonLaws.{le_from_pass}
use Rattle.tz_lookup.{specs.{Sets.{shift_of, shifts_of}, Spans.{shift_at}, Years.{year_second}}, proofs.YearCountLemmas.{cut_before}}
use Rattle.tz_lookup.proofs.compact_set.entries_before.Goals as goal

pub returns-then-time-start : goal.returns-then-time-start
returns-then-time-start c =
    let shifts = shifts_of c.args.set.now in
    let i = c.loop-index.index in
    let fs : SFits w64 c.year_second-start.result = search rules in
    let ft : SFits w64 c.time.result = search rules in
    let start = to_z-of_z w64 _ fs ∙ c.year_second-start.ensures.value in
    let time = to_z-of_z w64 _ ft ∙ c.time.ensures in
    let kept : ℤ = to_z w64 (of_z w64 c.year_second-start.result) in
    let tested = le_from_pass kept (to_z w64 (of_z w64 c.time.result)) c.if-time-start.true in
    let reached = subst (λ s. s ≤ℤ (shift_at shifts i).0) start (subst (λ t. kept ≤ℤ t) time tested) in
    cut_before shifts i (year_second c.args.place)
    (omega (arith, c.loop-index-test.true, c.entry_count-index-end.ensures.count, length-map c.args.set.now.others shift_of))
    c.requires.accepted.times c.loop-index.invariant reached
