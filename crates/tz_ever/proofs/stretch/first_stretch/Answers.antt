use Rattle.std.proofs.{Common.{◌∙◌, ap, ◌≤ℤ◌, ◌<ℤ◌, SFits, rules, w32, w64, sym, subst, arith}, lemmas.Int.{to_z-of_z}}
use Rattle.std.specs.Int.{int_min}
use Rattle.basics.specs.SignedLaws.{signed}
use Rattle.zone_spans.specs.Schedules.{total_at}
use Rattle.tz_ever.{specs.{ZoneShown.{zone_set_of}, Unrolled.{next_seam_second}}, proofs.StretchLemmas.{first_begin, first_end, first_is}}
use Rattle.tz_ever.proofs.stretch.first_stretch.Goals as goal
use Rattle.tz_lookup.specs.{CompactShown.{seen}, Stretches.{IsStretch, stretch_begin, stretch_end}, Sets.{schedule_of}, declared.set.FixedTimespanSet.{FixedTimespanSet}}

pub returns-clause-is : goal.returns-clause-is
returns-clause-is c =
    let found = c.stretch_of-found.result in
    let from : SFits w64 found.from = search rules in
    let end : SFits w64 found.until = search rules in
    let until : SFits w64 c.to_seam-until.result = search rules in
    let offset : SFits w32 found.offset = search rules in
    first_is (zone_set_of c.args.ever.now) c.args.second c.to_seam-until.result found _ c.requires
    (subst (λ (s : FixedTimespanSet). IsStretch (total_at (schedule_of s)) c.args.second found) c.compact.ensures.seen
    (subst (λ t. IsStretch (total_at (schedule_of (seen c.compact.result.now))) t found) (to_z-of_z w64 _ c.ranges.second) c.stretch_of-found.ensures.is))
    c.to_seam-until.ensures.seam (subst (λ t. c.to_seam-until.result ≤ℤ t) (to_z-of_z w64 _ end) c.to_seam-until.ensures.second)
    (to_z-of_z w64 _ from) (to_z-of_z w64 _ until) (to_z-of_z w32 _ offset)

pub returns-clause-lasts : goal.returns-clause-lasts
returns-clause-lasts c =
    let end : SFits w64 c.stretch_of-found.result.until = search rules in
    let until : SFits w64 c.to_seam-until.result = search rules in
    let found = subst (λ t. t <ℤ c.stretch_of-found.result.until) (to_z-of_z w64 _ c.ranges.second)
    (c.stretch_of-found.ensures.lasts (omega (arith, signed, c.requires, to_z-of_z w64 _ c.ranges.second))) in
    subst (λ t. c.args.second <ℤ t) (sym (to_z-of_z w64 _ until)) (c.to_seam-until.ensures.greatest c.args.second c.requires
    (subst (λ t. c.args.second <ℤ t) (sym (to_z-of_z w64 _ end)) found))

pub returns-clause-from : goal.returns-clause-from
returns-clause-from c =
    let found = c.stretch_of-found.result in
    let fits : SFits w64 found.from = search rules in
    let second = to_z-of_z w64 _ c.ranges.second in
    first_begin (zone_set_of c.args.ever.now) c.args.second _ c.requires
    (to_z-of_z w64 _ fits ∙ c.stretch_of-found.ensures.from ∙ (λ i. stretch_begin (schedule_of (c.compact.ensures.seen i)) (second i)))

pub returns-clause-until : goal.returns-clause-until
returns-clause-until c =
    let found = c.stretch_of-found.result in
    let fits : SFits w64 found.until = search rules in
    let until : SFits w64 c.to_seam-until.result = search rules in
    let second = to_z-of_z w64 _ c.ranges.second in
    first_end (zone_set_of c.args.ever.now) c.args.second _ c.requires
    (to_z-of_z w64 _ until ∙ c.to_seam-until.ensures.is
    ∙ ap (λ s. int_min s next_seam_second) (to_z-of_z w64 _ fits ∙ c.stretch_of-found.ensures.until ∙ (λ i. stretch_end (schedule_of (c.compact.ensures.seen i)) (second i))))
